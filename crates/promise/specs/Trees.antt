-- On every map the check passes the tree plan exactly where open links join every two stops.
use Rattle.std.specs.Prelude.{◌≡◌, ℕ, true, ◌↔◌, is_ok, ◌≢◌}
use Rattle.map.specs.Layouts.{Layout, is_stop}
use Rattle.map.specs.Rules.{Lawful}
use Rattle.links.specs.Links.{near}
use Rattle.links.specs.Groups.{Joined}
use Rattle.links.specs.Ways.{tree_way, tree_key}
use Rattle.links.specs.Courses.{pair_before}
use Rattle.routes.specs.Routings.{Routing, by_key}
use Rattle.plancheck.specs.Plans.{plan_check}

-- the tree plan of a map: its tree with its tree ranker
abbrev pub tree_routing : Layout → Routing
tree_routing m = record { first = λ o d. 0; way = λ t d n. tree_way m t d; map = m; rises = by_key pair_before (tree_key m) }

-- open links, one after another, join every two stops
abbrev pub StopsJoined : Layout → Type 0
StopsJoined m = (a b : ℕ) → is_stop m a ≡ true → is_stop m b ≡ true → (a ≢ b) → Joined (near m) a b

abbrev pub TreePasses : Layout → Type 0
TreePasses m = (is_ok (plan_check (tree_routing m)) ≡ true) ↔ StopsJoined m

abbrev pub EveryTreePasses : Type 0
EveryTreePasses = (m : Layout) → Lawful m → TreePasses m
