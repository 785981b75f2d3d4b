-- Which call the words of a line make.
use Rattle.std.specs.Prelude.{ℕ, List, [], ◌∷◌, slice_index, Err, Result}
use Rattle.script.specs.declared.call.Call.{Call}
use Rattle.script.specs.declared.call.Call.TheVariants.{MakeMap, ChangeMap, DrawMap, ChoosePlan, AddDetour, ChangeVias, CheckPlan, OpenFloor, UseFloor}
use Rattle.script.specs.declared.call.Change.TheVariants.{MarkStop, UnmarkStop, Close, Reopen}
use Rattle.script.specs.declared.call.ViaChange.TheVariants.{AddVia, RemoveVia}
use Rattle.script.specs.declared.call.FloorUse.TheVariants.{EnterTray, AdvanceTray, CountLeft, LookAt, TellCounts}
use Rattle.script.specs.declared.call.Fault.{Fault}
use Rattle.script.specs.declared.call.Fault.TheVariants.{NoSuchCall}
use Rattle.script.specs.declared.verb.Verb.{Verb}
use Rattle.script.specs.declared.verb.Verb.TheVariants as Verbs
use Rattle.script.specs.declared.verb.Verb.TheVariants.{Map, Stop, Unmark, Draw, Plan, Detour, Via, Unvia, Check, Open, Enter, Advance, Left, Look, Counts}
use Rattle.script.specs.Verbs.{verb_of}
use Rattle.script.specs.Parts.{into, then, nothing, tables_of, one_segment, part_of, plan_of}

-- what the words behind each verb have to be
abbrev pub call_by : Verb → List (List ℕ) → Result Call Fault
call_by Map ws = into (λ ts. MakeMap (slice_index ts 0) (slice_index ts 1)) (tables_of 2 ws)
call_by Stop ws = into (λ ts. ChangeMap (MarkStop (slice_index ts 0))) (tables_of 1 ws)
call_by Unmark ws = into (λ ts. ChangeMap (UnmarkStop (slice_index ts 0))) (tables_of 1 ws)
call_by Verbs.Close ws = into (λ p. ChangeMap (Close p)) (part_of ws)
call_by Verbs.Reopen ws = into (λ p. ChangeMap (Reopen p)) (part_of ws)
call_by Draw ws = into (λ _. DrawMap) (nothing ws)
call_by Plan ws = into ChoosePlan (plan_of ws)
call_by Detour ws = into (λ _. AddDetour) (nothing ws)
call_by Via ws = into (λ ts. ChangeVias (AddVia (slice_index ts 0) (slice_index ts 1) (slice_index ts 2))) (tables_of 3 ws)
call_by Unvia ws = into (λ ts. ChangeVias (RemoveVia (slice_index ts 0) (slice_index ts 1))) (tables_of 2 ws)
call_by Check ws = into (λ _. CheckPlan) (nothing ws)
call_by Open ws = into (λ _. OpenFloor) (nothing ws)
call_by Enter ws = into (λ ts. UseFloor (EnterTray (slice_index ts 0) (slice_index ts 1))) (tables_of 2 ws)
call_by Advance ws = into (λ n. UseFloor (AdvanceTray n)) (one_segment ws)
call_by Left ws = into (λ n. UseFloor (CountLeft n)) (one_segment ws)
call_by Look ws = into (λ n. UseFloor (LookAt n)) (one_segment ws)
call_by Counts ws = into (λ _. UseFloor TellCounts) (nothing ws)

-- the first word says which call it is, and the others what it is about
abbrev pub call_of : List (List ℕ) → Result Call Fault
call_of [] = Err NoSuchCall
call_of (w ∷ ws) = then (verb_of w) (λ v. call_by v ws)
