use Rattle.std.proofs.Common.{◌≡◌, ◌+◌}
use Rattle.map.specs.Layouts.{layout}
use Rattle.plancheck.specs.Questions.{routing_in}
use Rattle.plancheck.specs.Totals.{Few}
use Rattle.plancheck.specs.Pairs.{stops_of, facing}
use Rattle.plancheck.specs.Plans.{check_pairs}
use Rattle.plancheck.proofs.Loops.{to_left}
use Rattle.plancheck.proofs.question.Question.check_from.Given as goal

abbrev pub invariant-loop-destination : goal.invariant-loop-destination
invariant-loop-destination g l =
    let s = routing_in g.W.WayFinder g.R.Ranker g.R.Key.KeyOrder l.self in
    record { few : Few l.pass (l.initial.pass.pairs + l.destination); rest : check_pairs s l.pass (to_left (layout l.self.map.now) l.origin l.destination) ≡ check_pairs s l.initial.pass (facing l.origin (stops_of (layout l.self.map.now))) }
