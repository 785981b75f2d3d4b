use Rattle.std.proofs.Common.{◌≡◌, ◌-◌, ◌≤◌}
use Rattle.trays.specs.Lefts.{walk}
use Rattle.floor.specs.Floors.{site_in}
use Rattle.floor.proofs.floor.Floor.count_on.Given as goal

abbrev pub invariant-loop-count : goal.invariant-loop-count
invariant-loop-count g l =
    (l.count ≤ 960) × (walk (site_in g.W.WayFinder l.self) l.destination (960 - l.count) l.count l.at l.carried ≡ walk (site_in g.W.WayFinder l.self) l.destination 959 1 l.segment l.note)
