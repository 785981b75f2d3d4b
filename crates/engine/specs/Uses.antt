-- What the floor's calls answer, and the floor that they leave.
use Rattle.std.specs.Prelude.{ℕ, Ok, Err, Result}
use Rattle.map.specs.Layouts.{layout}
use Rattle.script.specs.declared.call.FloorUse.{FloorUse}
use Rattle.script.specs.declared.call.FloorUse.TheVariants.{EnterTray, AdvanceTray, CountLeft, LookAt, TellCounts}
use Rattle.trays.specs.declared.refusal.Refusal.{Refusal}
use Rattle.trays.specs.declared.tray.Tray.{Tray}
use Rattle.trays.specs.Sites.{Site, site_of}
use Rattle.trays.specs.Outcomes.{enter_outcome, enter_later, advance_outcome, advance_later, look_outcome, counts_outcome}
use Rattle.trays.specs.Lefts.{left_outcome}
use Rattle.floor.specs.declared.floor.Floor.{Floor}
use Rattle.floor.specs.Floors.{with_trays}
use Rattle.engine.specs.declared.finder.Finder.{Finder}
use Rattle.engine.specs.declared.outcome.Refused.TheVariants.{ByFloor}
use Rattle.engine.specs.declared.outcome.Outcome.{Outcome}
use Rattle.engine.specs.declared.outcome.Outcome.TheVariants.{LetIn, Advanced, SegmentsLeft, Seen, Counted}
use Rattle.engine.specs.declared.outcome.Failure.{Failure}
use Rattle.engine.specs.declared.outcome.Failure.TheVariants.{Refused}
use Rattle.engine.specs.Finders.{finder_first, finder_way}

-- what the floor is laid out with
abbrev pub site_at : Floor Finder → Site
site_at f = site_of (finder_first f.finder) (finder_way f.finder) (layout f.map)

abbrev pub let_in : Result (ℕ × ℕ) Refusal → Result Outcome Failure
let_in (Ok p) = Ok (LetIn (record { tray = p.0; segment = p.1 }))
let_in (Err e) = Err (Refused (ByFloor e))

abbrev pub advanced : Result (ℕ × ℕ × ℕ) Refusal → Result Outcome Failure
advanced (Ok p) = Ok (Advanced (record { tray = p.0; advances = p.1; segment = p.2 }))
advanced (Err e) = Err (Refused (ByFloor e))

abbrev pub segments_left : Result ℕ Refusal → Result Outcome Failure
segments_left (Ok n) = Ok (SegmentsLeft n)
segments_left (Err e) = Err (Refused (ByFloor e))

abbrev pub seen : Result Tray Refusal → Result Outcome Failure
seen (Ok a) = Ok (Seen a)
seen (Err e) = Err (Refused (ByFloor e))

abbrev pub counts_told : ℕ × ℕ × ℕ → Result Outcome Failure
counts_told p = Ok (Counted (record { entered = p.0; delivered = p.1; on_floor = p.2 }))

abbrev pub floor_answer : Floor Finder → FloorUse → Result Outcome Failure
floor_answer f (EnterTray o d) = let_in (enter_outcome (site_at f) f.trays o d)
floor_answer f (AdvanceTray n) = advanced (advance_outcome (site_at f) f.trays n)
floor_answer f (CountLeft n) = segments_left (left_outcome (site_at f) f.trays n)
floor_answer f (LookAt n) = seen (look_outcome (site_at f) f.trays n)
floor_answer f TellCounts = counts_told (counts_outcome f.trays)

abbrev pub floor_later : Floor Finder → FloorUse → Floor Finder
floor_later f (EnterTray o d) = with_trays f (enter_later (site_at f) f.trays o d)
floor_later f (AdvanceTray n) = with_trays f (advance_later (site_at f) f.trays n)
floor_later f (CountLeft n) = f
floor_later f (LookAt n) = f
floor_later f TellCounts = f
