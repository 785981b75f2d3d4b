use Rattle.std.proofs.Common.{◌<◌}
use Rattle.routes.specs.Routings.{routing}
use Rattle.routes.specs.Holdings.{segment_of}
use Rattle.routes.proofs.Loops.{KeyKept, Sofar}
use Rattle.routes.proofs.route.check_route.Given as goal

abbrev pub invariant-loop-number : goal.invariant-loop-number
invariant-loop-number g l =
    let s = routing g.W.WayFinder g.R.Ranker g.R.Key.KeyOrder l.map l.finder l.ranker in
    (l.table < 256) × KeyKept (g.R.Ranker.key l.ranker) l.held × Sofar s l.origin l.destination l.number (segment_of l.held) l.table l.note
