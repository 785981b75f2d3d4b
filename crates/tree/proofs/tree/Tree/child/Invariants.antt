use Rattle.std.proofs.Common.{◌<◌}
use Rattle.tree.specs.Finders.{parents_of}
use Rattle.tree.proofs.Climbs.{Climbed}
use Rattle.tree.proofs.tree.Tree.child.Given as goal

abbrev pub invariant-loop : goal.invariant-loop
invariant-loop l = (l.x < 256) × Climbed (parents_of l.self) l.table l.destination l.counter l.x
