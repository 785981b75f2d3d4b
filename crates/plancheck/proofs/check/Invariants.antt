use Rattle.std.proofs.Common.{◌≡◌, ◌*◌}
use Rattle.map.specs.Layouts.{layout}
use Rattle.routes.specs.Routings.{routing}
use Rattle.plancheck.specs.Totals.{Few}
use Rattle.plancheck.specs.Plans.{check_pairs, plan_check}
use Rattle.plancheck.proofs.Loops.{from_left}
use Rattle.plancheck.proofs.check.Given as goal

abbrev pub invariant-loop-origin : goal.invariant-loop-origin
invariant-loop-origin g l =
    let s = routing g.W.WayFinder g.R.Ranker g.R.Key.KeyOrder l.map l.finder l.ranker in
    record { few : Few l.pass (256 * l.origin); rest : check_pairs s l.pass (from_left (layout l.map) l.origin) ≡ plan_check s }
