-- A list of calls: each with its outcome and the trays that it leaves.
use Rattle.std.specs.Prelude.{ℕ, Ok, Err, Result}
use Rattle.trays.specs.declared.trays.Trays.{Trays}
use Rattle.trays.specs.declared.event.Call.{Call}
use Rattle.trays.specs.declared.event.Call.TheVariants.{Enter, Advance}
use Rattle.trays.specs.declared.event.Event.{Event}
use Rattle.trays.specs.declared.event.Event.TheVariants.{Refused, Entered, Advanced}
use Rattle.trays.specs.declared.refusal.Refusal.{Refusal}
use Rattle.trays.specs.Logs.{Log}
use Rattle.trays.specs.Logs.Log.{start, ◌then◌}
use Rattle.trays.specs.Sites.{Site}
use Rattle.trays.specs.Outcomes.{enter_outcome, enter_later, advance_outcome, advance_later}

-- the call with its outcome
abbrev pub entering : ℕ → ℕ → Result (ℕ × ℕ) Refusal → Event
entering o d (Ok a) = Entered o d a.0 a.1
entering o d (Err r) = Refused (Enter o d) r

abbrev pub advancing : ℕ → Result (ℕ × ℕ × ℕ) Refusal → Event
advancing p (Ok a) = Advanced p a.0 a.1 a.2
advancing p (Err r) = Refused (Advance p) r

abbrev pub event : Site → Trays → Call → Event
event s b (Enter o d) = entering o d (enter_outcome s b o d)
event s b (Advance p) = advancing p (advance_outcome s b p)

abbrev pub later : Site → Trays → Call → Trays
later s b (Enter o d) = enter_later s b o d
later s b (Advance p) = advance_later s b p

-- the trays after the calls, one after another
abbrev pub after : Site → Trays → Log Call → Trays
after s b start = b
after s b (cs then c) = later s (after s b cs) c

-- what the calls came to
abbrev pub history : Site → Trays → Log Call → Log Event
history s b start = start
history s b (cs then c) = history s b cs then event s (after s b cs) c
