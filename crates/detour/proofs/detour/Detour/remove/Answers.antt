use Rattle.detour.proofs.Pairs.{removed}
use Rattle.detour.proofs.detour.Detour.remove.Goals as goal

pub returns-clause-only : goal.returns-clause-only
returns-clause-only g c = rw c.remove.ensures (removed c.args.origin c.args.destination c.args.self.now.vias)
