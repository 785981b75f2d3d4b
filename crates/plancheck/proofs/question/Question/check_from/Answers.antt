use Rattle.std.proofs.Common.{◌+◌, sym, ap, ◌∙◌, arith}
use Rattle.std.proofs.lemmas.Bool.{cond-true}
use Rattle.map.specs.Layouts.{layout}
use Rattle.plancheck.specs.Questions.{routing_in}
use Rattle.plancheck.specs.Pairs.{stop_at, facing}
use Rattle.plancheck.specs.Plans.{check_pairs}
use Rattle.plancheck.proofs.Marks.{left_none, no_stop_past}
use Rattle.plancheck.proofs.Loops.{to_left, to_splits, goes_on}
use Rattle.plancheck.proofs.question.Question.check_from.Goals as goal

pub returns-in_ok-pass-clause-is : goal.returns-in_ok-pass-clause-is
returns-in_ok-pass-clause-is g c =
    let s = routing_in g.W.WayFinder g.R.Ranker g.R.Key.KeyOrder c.args.self.now in
    let m = layout c.args.self.now.map.now in
    let none = ap (facing c.args.origin) (left_none m.stops (c.loop-destination.destination + 1) (no_stop_past c.args.self.now.map.now) (omega arith)) in
    let last = goes_on s (λ i. facing c.args.origin (stop_at m i)) (to_left m c.args.origin) (to_splits m c.args.origin) _ _ _ c.loop-destination.invariant.rest _ c.in_ok-pass.ensures.is in
    sym (ap (check_pairs s c.in_ok-pass.pass) none) ∙ last ∙ ap (check_pairs s c.args.before) (sym (cond-true _ _ _ (sym c.is_stop.ensures ∙ c.if-is_stop.true)))
