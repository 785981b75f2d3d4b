use Rattle.std.proofs.Common.{◌-◌}
use Rattle.map.specs.Layouts.{layout}
use Rattle.tree.specs.Growths.{Spreading, Kept}
use Rattle.tree.proofs.growth.Growth.spread.Given as goal

abbrev pub invariant-loop-place : goal.invariant-loop-place
invariant-loop-place l = Spreading (layout l.map) l.root l.place l.self × Kept l.initial.self l.self

abbrev pub decreases-loop-place : goal.decreases-loop-place
decreases-loop-place l = 256 - l.place
