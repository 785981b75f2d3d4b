-- The numbers of the map's refusals.
use Rattle.std.specs.Prelude.{ℕ}
use Rattle.map.specs.declared.refusal.Refusal.{Refusal}
use Rattle.map.specs.declared.refusal.Refusal.TheVariants.{BadSize, NoTable, NoSegment, TooManyStops}

abbrev pub refusal_number : Refusal → ℕ
refusal_number BadSize = 1
refusal_number NoTable = 2
refusal_number NoSegment = 3
refusal_number TooManyStops = 4
