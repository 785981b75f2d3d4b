-- What a pass is worth: what holds after every list of calls on a floor that was opened on what passed.
use Rattle.std.specs.Prelude.{◌≡◌, ℕ, true, List, Ok, ◌≢◌}
use Rattle.map.specs.Layouts.{is_stop}
use Rattle.routes.specs.Routings.{Routing}
use Rattle.routes.specs.Routes.{Route}
use Rattle.plancheck.specs.declared.pass.Pass.{Pass}
use Rattle.plancheck.specs.Plans.{plan_check}
use Rattle.trays.specs.declared.event.Call.{Call}
use Rattle.trays.specs.Logs.{Log}
use Rattle.trays.specs.Sites.{Site, site_of}
use Rattle.trays.specs.Promises.{Promised}

-- what a floor is laid out with
abbrev pub site_for : Routing → Site
site_for s = site_of s.first s.way s.map

-- Every two different stops have one route, by which the check judged the plan; and by these routes all is kept that
-- is promised after every list of calls.
pub record Flows (s : Routing) (a : Pass) : Type 0 where
  pub routes : ℕ → ℕ → List ℕ
  pub routed : (o d : ℕ) → is_stop s.map o ≡ true → is_stop s.map d ≡ true → (o ≢ d) → Route s o d (routes o d)
  pub no_other : (o d : ℕ) (qs rs : List ℕ) → Route s o d qs → Route s o d rs → qs ≡ rs
  pub after_every_list : (calls : Log Call) → Promised (site_for s) routes a.longest calls

abbrev pub FlowsAfterPass : Routing → Type 0
FlowsAfterPass s = (a : Pass) → plan_check s ≡ Ok a → Flows s a
