use Rattle.std.proofs.Common.{◌≡◌, ◌≤◌, drop}
use Rattle.script.specs.Numbers.{capped, number_of}
use Rattle.script.proofs.Digits.{capped_on}
use Rattle.script.proofs.number.value_of.Given as goal

-- what is read and what is left to read come to the number
abbrev pub invariant-loop-digit : goal.invariant-loop-digit
invariant-loop-digit l = (capped_on l.value (drop l.digit-index l.digit-items) ≡ capped (number_of l.word)) × (l.value ≤ 65536) × (l.digit-items ≡ l.word)
