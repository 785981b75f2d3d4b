use Rattle.std.proofs.Common.{◌≡◌, rules, ap, sym, ◌∙◌}
use borrow.Author.Tests.{tests}
use Rattle.std.specs.List.{find}
use Rattle.std.specs.Option.{option_map}
use Rattle.std.proofs.lemmas.Iterator.{YieldsList-from_slice}
use Rattle.std.proofs.lemmas.Iterator.Search.{find_from_yields_List}
use Rattle.detour.specs.Vias.{matches}
use Rattle.detour.proofs.Places.{table_found, first_of}
use Rattle.detour.proofs.vias.Vias.find.Goals as goal

pub returns-in_err-place : goal.returns-in_err-place
returns-in_err-place c =
    let ps = c.args.self.now.places in
    let is = first_of ps c.args.origin c.args.destination in
    let found : option_map (λ p. p.now) c.find.result ≡ find (matches c.args.origin c.args.destination) ps =
    find_from_yields_List (matches c.args.origin c.args.destination) _ _ c.find.result c.find.ensures.ran (YieldsList-from_slice ps (cc)) (λ p b q k. search (rules, tests)) in
    search rules

pub returns : goal.returns
returns c =
    let ps = c.args.self.now.places in
    let is = first_of ps c.args.origin c.args.destination in
    let found : option_map (λ p. p.now) c.find.result ≡ find (matches c.args.origin c.args.destination) ps =
    find_from_yields_List (matches c.args.origin c.args.destination) _ _ c.find.result c.find.ensures.ran (YieldsList-from_slice ps (cc)) (λ p b q k. search (rules, tests)) in
    search rules
