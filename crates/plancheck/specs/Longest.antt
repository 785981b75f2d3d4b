-- No route between stops is longer than the longest that a pass reports.
use Rattle.std.specs.Prelude.{◌≡◌, ℕ, ◌≤◌, true, List, length, Ok, ◌≢◌}
use Rattle.map.specs.Layouts.{is_stop}
use Rattle.routes.specs.Routings.{Routing}
use Rattle.routes.specs.Routes.{Route}
use Rattle.plancheck.specs.declared.pass.Pass.{Pass}
use Rattle.plancheck.specs.Plans.{plan_check}

abbrev pub Longest-bounds : Routing → Type 0
Longest-bounds s = (a : Pass) → plan_check s ≡ Ok a → (o d : ℕ) → is_stop s.map o ≡ true → is_stop s.map d ≡ true → (o ≢ d) → (qs : List ℕ) → Route s o d qs → length qs ≤ a.longest
