-- The numbers of the floor's refusals, and the segments that they name.
use Rattle.std.specs.Prelude.{ℕ, Some, None, Option}
use Rattle.trays.specs.declared.refusal.Refusal.{Refusal}
use Rattle.trays.specs.declared.refusal.Refusal.TheVariants.{NoSegment, NoWay, WantedMissing, WantedClosed, NotTwoStops, NumbersUsedUp, WantedTaken, NoTray, TooLong}

abbrev pub refusal_number : Refusal → ℕ
refusal_number NoSegment = 3
refusal_number (NoWay held wanted) = 13
refusal_number (WantedMissing held wanted) = 14
refusal_number (WantedClosed held wanted) = 15
refusal_number NotTwoStops = 17
refusal_number NumbersUsedUp = 18
refusal_number (WantedTaken held wanted) = 19
refusal_number NoTray = 20
refusal_number TooLong = 23

-- the segments held and wanted; 65535 stands for none
abbrev pub refusal_segments : Refusal → Option (ℕ × ℕ)
refusal_segments NoSegment = None
refusal_segments (NoWay held wanted) = Some (held, wanted)
refusal_segments (WantedMissing held wanted) = Some (held, wanted)
refusal_segments (WantedClosed held wanted) = Some (held, wanted)
refusal_segments NotTwoStops = None
refusal_segments NumbersUsedUp = None
refusal_segments (WantedTaken held wanted) = Some (held, wanted)
refusal_segments NoTray = None
refusal_segments TooLong = None
