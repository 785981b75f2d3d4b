use Rattle.std.proofs.Common.{◌∙◌, rules}
use borrow.Author.Tests.{tests}
use Rattle.std.specs.Option.{is_none}
use Rattle.std.proofs.lemmas.Iterator.{YieldsList-from_slice}
use Rattle.std.proofs.lemmas.Iterator.Search.{position_from_yields_List}
use Rattle.detour.proofs.Places.{first_free}
use Rattle.detour.proofs.vias.Vias.free_place.Goals as goal

pub returns-clause-is : goal.returns-clause-is
returns-clause-is c =
    position_from_yields_List is_none _ _ c.position.result c.position.ensures.ran (YieldsList-from_slice c.args.self.now.places (cc)) (λ p b q k. search (rules, tests))
    ∙ first_free c.args.self.now.places
