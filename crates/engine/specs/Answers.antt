-- What each call of a script answers.
use Rattle.std.specs.Prelude.{Some, None, Ok, Err, Option, Result}
use Rattle.std.specs.Option.{option_map}
use Rattle.map.specs.declared.map.Map.{Map}
use Rattle.map.specs.declared.refusal.Refusal.{Refusal}
use Rattle.map.specs.Layouts.{Layout, layout}
use Rattle.map.specs.Changes.{new_map, mark_stop, unmark_stop, close_table, reopen_table, close_segment, reopen_segment}
use Rattle.links.specs.Courses.{pair_before}
use Rattle.routes.specs.Routings.{Routing, by_key}
use Rattle.routes.specs.declared.refusal.Refusal as Judgement
use Rattle.plancheck.specs.declared.pass.Pass.{Pass}
use Rattle.plancheck.specs.Plans.{plan_check}
use Rattle.detour.specs.declared.refusal.Refusal as Detours
use Rattle.floor.specs.declared.floor.Floor.{Floor}
use Rattle.script.specs.declared.call.Fault.{Fault}
use Rattle.script.specs.declared.call.Call.{Call}
use Rattle.script.specs.declared.call.Call.TheVariants.{MakeMap, ChangeMap, DrawMap, ChoosePlan, AddDetour, ChangeVias, CheckPlan, OpenFloor, UseFloor}
use Rattle.script.specs.declared.call.Change.{Change}
use Rattle.script.specs.declared.call.Change.TheVariants.{MarkStop, UnmarkStop, Close, Reopen}
use Rattle.script.specs.declared.call.Part.TheVariants.{Table, Segment}
use Rattle.script.specs.declared.call.PlanKind.{PlanKind}
use Rattle.script.specs.declared.call.PlanKind.TheVariants.{RowFirst, Tree}
use Rattle.script.specs.declared.call.ViaChange.{ViaChange}
use Rattle.script.specs.declared.call.FloorUse.{FloorUse}
use Rattle.engine.specs.declared.outcome.Refused.TheVariants.{ByMap, ByDetour, ByCheck}
use Rattle.engine.specs.declared.outcome.Outcome.{Outcome}
use Rattle.engine.specs.declared.outcome.Outcome.TheVariants.{Done, Drawn, Passed}
use Rattle.engine.specs.declared.outcome.Failure.{Failure}
use Rattle.engine.specs.declared.outcome.Failure.TheVariants.{Refused, Wrong}
use Rattle.engine.specs.declared.outcome.Wrong.TheVariants.{Said, NoMap, NoPlan, NoDetour, NoFloor, ThreeDetours}
use Rattle.engine.specs.declared.finder.Finder.{Finder}
use Rattle.engine.specs.declared.plan.Plan.{Plan}
use Rattle.engine.specs.declared.store.Store.{Store}
use Rattle.engine.specs.Finders.{named_key, finder_first, finder_way, detoured}
use Rattle.engine.specs.Plans.{via_answer}
use Rattle.engine.specs.Uses.{floor_answer}

-- the map of a store as plain data, where there is one
abbrev pub map_of : Option Map → Option Layout
map_of o = option_map layout o

-- the map's own answer to each change
abbrev pub changed : Layout → Change → Result Layout Refusal
changed m (MarkStop t) = mark_stop m t
changed m (UnmarkStop t) = unmark_stop m t
changed m (Close (Table t)) = close_table m t
changed m (Reopen (Table t)) = reopen_table m t
changed m (Close (Segment n)) = close_segment m n
changed m (Reopen (Segment n)) = reopen_segment m n

abbrev pub map_outcome : Result Layout Refusal → Result Outcome Failure
map_outcome (Ok q) = Ok Done
map_outcome (Err e) = Err (Refused (ByMap e))

-- without a map there is nothing to change or to draw
abbrev pub change_answer : Option Layout → Change → Result Outcome Failure
change_answer None x = Err (Wrong NoMap)
change_answer (Some m) x = map_outcome (changed m x)

abbrev pub draw_answer : Option Layout → Result Outcome Failure
draw_answer None = Err (Wrong NoMap)
draw_answer (Some m) = Ok Drawn

-- a tree is that of a map, and row-first needs none
abbrev pub plan_answer : Option Layout → PlanKind → Result Outcome Failure
plan_answer o RowFirst = Ok Done
plan_answer None Tree = Err (Wrong NoMap)
plan_answer (Some m) Tree = Ok Done

abbrev pub detour_made : Option Finder → Result Outcome Failure
detour_made None = Err (Wrong ThreeDetours)
detour_made (Some w) = Ok Done

abbrev pub detour_answer : Option Plan → Result Outcome Failure
detour_answer None = Err (Wrong NoPlan)
detour_answer (Some p) = detour_made (detoured p.finder)

abbrev pub vias_told : Option (Result (Unit {0}) Detours.Refusal) → Result Outcome Failure
vias_told None = Err (Wrong NoDetour)
vias_told (Some (Ok u)) = Ok Done
vias_told (Some (Err e)) = Err (Refused (ByDetour e))

abbrev pub vias_answer : Option Plan → ViaChange → Result Outcome Failure
vias_answer None x = Err (Wrong NoPlan)
vias_answer (Some p) x = vias_told (via_answer p.finder x)

-- what is judged: the plan's way-finder on the map, by the keys of its ranker
abbrev pub plan_routing : Layout → Plan → Routing
plan_routing m p = record { first = finder_first p.finder; way = finder_way p.finder; map = m; rises = by_key pair_before (named_key p.named) }

abbrev pub verdict_told : Result Pass Judgement.Refusal → Result Outcome Failure
verdict_told (Ok a) = Ok (Passed a)
verdict_told (Err e) = Err (Refused (ByCheck e))

abbrev pub check_answer : Option Layout → Option Plan → Result Outcome Failure
check_answer None o = Err (Wrong NoMap)
check_answer (Some m) None = Err (Wrong NoPlan)
check_answer (Some m) (Some p) = verdict_told (plan_check (plan_routing m p))

abbrev pub open_answer : Option Layout → Option Plan → Result Outcome Failure
open_answer None o = Err (Wrong NoMap)
open_answer (Some m) None = Err (Wrong NoPlan)
open_answer (Some m) (Some p) = Ok Done

abbrev pub use_answer : Option (Floor Finder) → FloorUse → Result Outcome Failure
use_answer None u = Err (Wrong NoFloor)
use_answer (Some f) u = floor_answer f u

abbrev pub answer_of : Store → Call → Result Outcome Failure
answer_of s (MakeMap w h) = map_outcome (new_map w h)
answer_of s (ChangeMap x) = change_answer (map_of s.map) x
answer_of s DrawMap = draw_answer (map_of s.map)
answer_of s (ChoosePlan k) = plan_answer (map_of s.map) k
answer_of s AddDetour = detour_answer s.plan
answer_of s (ChangeVias x) = vias_answer s.plan x
answer_of s CheckPlan = check_answer (map_of s.map) s.plan
answer_of s OpenFloor = open_answer (map_of s.map) s.plan
answer_of s (UseFloor u) = use_answer s.floor u

-- a line that is no call is answered by its fault
abbrev pub line_answer : Store → Result Call Fault → Result Outcome Failure
line_answer s (Ok c) = answer_of s c
line_answer s (Err f) = Err (Wrong (Said f))
