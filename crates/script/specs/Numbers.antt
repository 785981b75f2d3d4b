-- The numbers of a script: decimal digits, without a sign.
use Rattle.std.specs.Prelude.{ℕ, ◌+◌, ◌-◌, ◌*◌, cond, List, [], ◌∷◌, Some, None, Ok, Err, Option, Result, nat_le, nat_lt}
use Rattle.std.specs.Option.{option_map}
use Rattle.std.specs.Char.{is_ascii_digit}
use Rattle.script.specs.declared.call.Fault.{Fault}
use Rattle.script.specs.declared.call.Fault.TheVariants.{NoNumber, TooLarge}

-- the number that n and these further characters make, where each is one of 0 to 9
abbrev pub read_on : ℕ → List ℕ → Option ℕ
read_on n [] = Some n
read_on n (b ∷ bs) = cond (is_ascii_digit b) (read_on (10 * n + (b - 48)) bs) None

-- a word of one digit or more is a number, and no other is
abbrev pub number_of : List ℕ → Option ℕ
number_of [] = None
number_of (b ∷ bs) = read_on 0 (b ∷ bs)

-- numbers over 65,535 fit no call, so they need not be told apart
abbrev pub at_most_over : ℕ → ℕ
at_most_over n = cond (nat_lt n 65536) n 65536

abbrev pub capped : Option ℕ → Option ℕ
capped o = option_map at_most_over o

-- a word that is no number is one fault, and a number over the limit another
abbrev pub up_to : ℕ → Option ℕ → Result ℕ Fault
up_to most None = Err NoNumber
up_to most (Some n) = cond (nat_le n most) (Ok n) (Err TooLarge)

abbrev pub number_up_to : ℕ → List ℕ → Result ℕ Fault
number_up_to most w = up_to most (number_of w)
