-- The store that each call of a script leaves.
use Rattle.std.specs.Prelude.{◌≡◌, ℕ, Some, None, Ok, Err, Option, Result}
use Rattle.std.specs.Option.{option_map}
use Rattle.map.specs.declared.map.Map.{Map}
use Rattle.map.specs.declared.side.Side.{Side}
use Rattle.map.specs.declared.refusal.Refusal.{Refusal}
use Rattle.map.specs.Layouts.{Layout}
use Rattle.map.specs.Changes.{new_map}
use Rattle.orders.specs.declared.key.Pair.{Pair}
use Rattle.ways.specs.RowFirsts.{row_first_way, row_first_key}
use Rattle.links.specs.Ways.{tree_way, tree_key}
use Rattle.plancheck.specs.Plans.{plan_check}
use Rattle.detour.specs.declared.refusal.Refusal as Detours
use Rattle.floor.specs.declared.floor.Floor.{Floor}
use Rattle.floor.specs.Floors.{empty_floor}
use Rattle.script.specs.declared.call.Fault.{Fault}
use Rattle.script.specs.declared.call.Call.{Call}
use Rattle.script.specs.declared.call.Call.TheVariants.{MakeMap, ChangeMap, DrawMap, ChoosePlan, AddDetour, ChangeVias, CheckPlan, OpenFloor, UseFloor}
use Rattle.script.specs.declared.call.Change.{Change}
use Rattle.script.specs.declared.call.PlanKind.{PlanKind}
use Rattle.script.specs.declared.call.PlanKind.TheVariants.{RowFirst, Tree}
use Rattle.script.specs.declared.call.ViaChange.{ViaChange}
use Rattle.script.specs.declared.call.FloorUse.{FloorUse}
use Rattle.engine.specs.declared.finder.Finder.{Finder}
use Rattle.engine.specs.declared.plan.Plan.{Plan}
use Rattle.engine.specs.declared.store.Store.{Store}
use Rattle.engine.specs.Finders.{named_way, named_key, detoured}
use Rattle.engine.specs.Plans.{new_plan, with_finder, judged, via_answer, via_later}
use Rattle.engine.specs.Uses.{floor_later}
use Rattle.engine.specs.Answers.{map_of, changed, plan_routing}

-- a refusal leaves what there was
abbrev pub instead : Option Layout → Result Layout Refusal → Option Layout
instead old (Ok q) = Some q
instead old (Err e) = old

abbrev pub changed_map : Option Layout → Change → Option Layout
changed_map None x = None
changed_map (Some m) x = instead (Some m) (changed m x)

abbrev pub later_map : Option Layout → Call → Option Layout
later_map o (MakeMap w h) = instead o (new_map w h)
later_map o (ChangeMap x) = changed_map o x
later_map o DrawMap = o
later_map o (ChoosePlan k) = o
later_map o AddDetour = o
later_map o (ChangeVias x) = o
later_map o CheckPlan = o
later_map o OpenFloor = o
later_map o (UseFloor u) = o

-- with a new map, the plan and the floor of the old one are gone
abbrev pub new_map_else : {A : Type 0} → Result Layout Refusal → Option A → Option A
new_map_else (Ok q) old = None
new_map_else (Err e) old = old

-- what the check said no longer counts once the map or the way-finder is another
abbrev pub unchecked_plan : Option Plan → Option Plan
unchecked_plan o = option_map (λ p. with_finder p p.finder) o

abbrev pub unchecked_if : Result Layout Refusal → Option Plan → Option Plan
unchecked_if (Ok q) o = unchecked_plan o
unchecked_if (Err e) o = o

abbrev pub changed_plan : Option Layout → Change → Option Plan → Option Plan
changed_plan None x o = o
changed_plan (Some m) x o = unchecked_if (changed m x) o

-- a new plan with these ways and keys
abbrev pub IsNew : (ℕ → ℕ → Option (Side × ℕ)) → (ℕ → Pair ℕ ℕ) → Option Plan → Type 0
IsNew way key None = ⊥
IsNew way key (Some p) = (p ≡ new_plan p.named) × ((t d : ℕ) → named_way p.named t d ≡ way t d) × ((n : ℕ) → named_key p.named n ≡ key n)

-- row-first, or the tree of the map as it is
abbrev pub Chosen : Option Layout → PlanKind → Option Plan → Option Plan → Type 0
Chosen o RowFirst old new = IsNew row_first_way row_first_key new
Chosen None Tree old new = new ≡ old
Chosen (Some m) Tree old new = IsNew (tree_way m) (tree_key m) new

abbrev pub over_if : Plan → Option Finder → Option Plan
over_if p None = Some p
over_if p (Some w) = Some (with_finder p w)

abbrev pub detour_later : Option Plan → Option Plan
detour_later None = None
detour_later (Some p) = over_if p (detoured p.finder)

abbrev pub vias_if : Plan → Finder → Option (Result (Unit {0}) Detours.Refusal) → Option Plan
vias_if p w None = Some p
vias_if p w (Some (Ok u)) = Some (with_finder p w)
vias_if p w (Some (Err e)) = Some p

abbrev pub vias_later : Option Plan → ViaChange → Option Plan
vias_later None x = None
vias_later (Some p) x = vias_if p (via_later p.finder x) (via_answer p.finder x)

abbrev pub check_later : Option Layout → Option Plan → Option Plan
check_later None o = o
check_later (Some m) None = None
check_later (Some m) (Some p) = Some (judged p (plan_check (plan_routing m p)))

abbrev pub PlanLater : Store → Call → Option Plan → Type 0
PlanLater s (MakeMap w h) new = new ≡ new_map_else (new_map w h) s.plan
PlanLater s (ChangeMap x) new = new ≡ changed_plan (map_of s.map) x s.plan
PlanLater s DrawMap new = new ≡ s.plan
PlanLater s (ChoosePlan k) new = Chosen (map_of s.map) k s.plan new
PlanLater s AddDetour new = new ≡ detour_later s.plan
PlanLater s (ChangeVias x) new = new ≡ vias_later s.plan x
PlanLater s CheckPlan new = new ≡ check_later (map_of s.map) s.plan
PlanLater s OpenFloor new = new ≡ s.plan
PlanLater s (UseFloor u) new = new ≡ s.plan

-- a floor keeps the map and the way-finder that it was opened on
abbrev pub open_later : Option Map → Option Plan → Option (Floor Finder) → Option (Floor Finder)
open_later None o old = old
open_later (Some m) None old = old
open_later (Some m) (Some p) old = Some (empty_floor m p.finder)

abbrev pub use_later : Option (Floor Finder) → FloorUse → Option (Floor Finder)
use_later None u = None
use_later (Some f) u = Some (floor_later f u)

abbrev pub later_floor : Store → Call → Option (Floor Finder)
later_floor s (MakeMap w h) = new_map_else (new_map w h) s.floor
later_floor s (ChangeMap x) = s.floor
later_floor s DrawMap = s.floor
later_floor s (ChoosePlan k) = s.floor
later_floor s AddDetour = s.floor
later_floor s (ChangeVias x) = s.floor
later_floor s CheckPlan = s.floor
later_floor s OpenFloor = open_later s.map s.plan s.floor
later_floor s (UseFloor u) = use_later s.floor u

-- a line that is no call changes nothing
abbrev pub line_map : Option Layout → Result Call Fault → Option Layout
line_map o (Ok c) = later_map o c
line_map o (Err f) = o

abbrev pub LinePlan : Store → Result Call Fault → Option Plan → Type 0
LinePlan s (Ok c) new = PlanLater s c new
LinePlan s (Err f) new = new ≡ s.plan

abbrev pub line_floor : Store → Result Call Fault → Option (Floor Finder)
line_floor s (Ok c) = later_floor s c
line_floor s (Err f) = s.floor
