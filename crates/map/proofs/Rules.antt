-- Every map keeps the rules.
use Rattle.std.proofs.Common.{arith}
use Rattle.map.specs.declared.map.Map.{Map}
use Rattle.map.specs.Layouts.{layout}
use Rattle.map.specs.Rules.{Lawful}

pub map_lawful : (m : Map) → Lawful (layout m)
map_lawful m = let few = m.few in let counted = m.counted in record { wide = m.size.wide; high = m.size.high; tables_there = m.tables_there; segments_there = m.segments_there; stops_there = m.stops_there; few = omega arith }
