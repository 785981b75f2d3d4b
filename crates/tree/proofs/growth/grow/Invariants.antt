use Rattle.map.specs.Layouts.{layout}
use Rattle.tree.specs.Growths.{Swept}
use Rattle.tree.proofs.growth.grow.Given as goal

abbrev pub invariant-loop-table : goal.invariant-loop-table
invariant-loop-table l = Swept (layout l.map) l.table l.growth
