-- The refusals of reading and writing a plan: their numbers, and the block that each names.
use Rattle.std.specs.Prelude.{ℕ, Some, None, Option}
use Rattle.planfile.specs.declared.refusal.Refusal.{Refusal}
use Rattle.planfile.specs.declared.refusal.Refusal.TheVariants.{BadLength, BadSum, BadFront, BadContent, ShortBuffer, WrongKeys}

abbrev pub refusal_number : Refusal → ℕ
refusal_number BadLength = 9
refusal_number (BadSum k) = 10
refusal_number (BadFront k) = 11
refusal_number (BadContent k) = 12
refusal_number ShortBuffer = 21
refusal_number WrongKeys = 22

abbrev pub refusal_block : Refusal → Option ℕ
refusal_block BadLength = Some 0
refusal_block (BadSum k) = Some k
refusal_block (BadFront k) = Some k
refusal_block (BadContent k) = Some k
refusal_block ShortBuffer = None
refusal_block WrongKeys = None
