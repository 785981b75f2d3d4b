use Rattle.map.specs.Layouts.{layout}
use Rattle.planwriter.proofs.StopLists.{Found}
use Rattle.planwriter.proofs.stops.stops_of.Given as goal

abbrev pub invariant-loop-table : goal.invariant-loop-table
invariant-loop-table l = Found (layout l.map) l.stops.items l.table
