-- Every call can be said: its wording, with its numbers in decimal digits, reads as that call.
use Rattle.std.specs.Prelude.{◌≡◌, ℕ, ◌<◌, List, [], ◌∷◌, Ok, codes, decimal}
use Rattle.script.specs.declared.call.Call.{Call}
use Rattle.script.specs.declared.call.Call.TheVariants.{MakeMap, ChangeMap, DrawMap, ChoosePlan, AddDetour, ChangeVias, CheckPlan, OpenFloor, UseFloor}
use Rattle.script.specs.declared.call.Change.TheVariants.{MarkStop, UnmarkStop, Close, Reopen}
use Rattle.script.specs.declared.call.Part.TheVariants.{Table, Segment}
use Rattle.script.specs.declared.call.PlanKind.TheVariants.{RowFirst, Tree}
use Rattle.script.specs.declared.call.ViaChange.TheVariants.{AddVia, RemoveVia}
use Rattle.script.specs.declared.call.FloorUse.TheVariants.{EnterTray, AdvanceTray, CountLeft, LookAt, TellCounts}
use Rattle.script.specs.Calls.{call_of}

abbrev pub wording : Call → List (List ℕ)
wording (MakeMap w h) = codes "map" ∷ decimal w ∷ decimal h ∷ []
wording (ChangeMap (MarkStop t)) = codes "stop" ∷ decimal t ∷ []
wording (ChangeMap (UnmarkStop t)) = codes "unmark" ∷ decimal t ∷ []
wording (ChangeMap (Close (Table t))) = codes "close" ∷ codes "table" ∷ decimal t ∷ []
wording (ChangeMap (Reopen (Table t))) = codes "reopen" ∷ codes "table" ∷ decimal t ∷ []
wording (ChangeMap (Close (Segment n))) = codes "close" ∷ codes "segment" ∷ decimal n ∷ []
wording (ChangeMap (Reopen (Segment n))) = codes "reopen" ∷ codes "segment" ∷ decimal n ∷ []
wording DrawMap = codes "draw" ∷ []
wording (ChoosePlan RowFirst) = codes "plan" ∷ codes "row-first" ∷ []
wording (ChoosePlan Tree) = codes "plan" ∷ codes "tree" ∷ []
wording AddDetour = codes "detour" ∷ []
wording (ChangeVias (AddVia o d v)) = codes "via" ∷ decimal o ∷ decimal d ∷ decimal v ∷ []
wording (ChangeVias (RemoveVia o d)) = codes "unvia" ∷ decimal o ∷ decimal d ∷ []
wording CheckPlan = codes "check" ∷ []
wording OpenFloor = codes "open" ∷ []
wording (UseFloor (EnterTray o d)) = codes "enter" ∷ decimal o ∷ decimal d ∷ []
wording (UseFloor (AdvanceTray n)) = codes "advance" ∷ decimal n ∷ []
wording (UseFloor (CountLeft n)) = codes "left" ∷ decimal n ∷ []
wording (UseFloor (LookAt n)) = codes "look" ∷ decimal n ∷ []
wording (UseFloor TellCounts) = codes "counts" ∷ []

-- the numbers of a call fit their types
abbrev pub InRange : Call → Type 0
InRange (MakeMap w h) = (w < 256) × (h < 256)
InRange (ChangeMap (MarkStop t)) = t < 256
InRange (ChangeMap (UnmarkStop t)) = t < 256
InRange (ChangeMap (Close (Table t))) = t < 256
InRange (ChangeMap (Reopen (Table t))) = t < 256
InRange (ChangeMap (Close (Segment n))) = n < 65536
InRange (ChangeMap (Reopen (Segment n))) = n < 65536
InRange DrawMap = Unit {0}
InRange (ChoosePlan p) = Unit {0}
InRange AddDetour = Unit {0}
InRange (ChangeVias (AddVia o d v)) = (o < 256) × (d < 256) × (v < 256)
InRange (ChangeVias (RemoveVia o d)) = (o < 256) × (d < 256)
InRange CheckPlan = Unit {0}
InRange OpenFloor = Unit {0}
InRange (UseFloor (EnterTray o d)) = (o < 256) × (d < 256)
InRange (UseFloor (AdvanceTray n)) = n < 65536
InRange (UseFloor (CountLeft n)) = n < 65536
InRange (UseFloor (LookAt n)) = n < 65536
InRange (UseFloor TellCounts) = Unit {0}

abbrev pub EveryCallCanBeSaid : Type 0
EveryCallCanBeSaid = (c : Call) → InRange c → call_of (wording c) ≡ Ok c
