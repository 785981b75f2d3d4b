use Rattle.std.proofs.Common.{◌≡◌, Some, sym, ◌∙◌, rules}
use Rattle.detour.specs.Vias.{free_in}
use Rattle.detour.proofs.Pairs.{added, is_none}
use Rattle.detour.proofs.detour.Detour.add.Goals as goal

pub returns-clause-only : goal.returns-clause-only
returns-clause-only g c =
    let free : free_in c.args.self.now.vias.places ≡ Some c.in_ok-place.place = sym c.free_place.ensures.is ∙ search rules in
    let none = sym c.find.ensures ∙ is_none _ (sym c.if-is_some.ensures) in
    added _ _ _ c.args.self.now.vias.places _ free none
