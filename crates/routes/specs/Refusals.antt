-- The numbers of the refusals of a route, and the number that stands for no segment.
use Rattle.std.specs.Prelude.{ℕ, Some, None, Option}
use Rattle.routes.specs.declared.refusal.Reason.{Reason}
use Rattle.routes.specs.declared.refusal.Reason.TheVariants.{NoWay, NoSegment, Closed, NotRising}

abbrev pub reason_number : Reason → ℕ
reason_number NoWay = 13
reason_number NoSegment = 14
reason_number Closed = 15
reason_number NotRising = 16

-- a segment, or none
abbrev pub segment_number : Option ℕ → ℕ
segment_number None = 65535
segment_number (Some n) = n
