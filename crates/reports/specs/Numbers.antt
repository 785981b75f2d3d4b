-- How many tables or segments something is true of.
use Rattle.std.specs.Prelude.{ℕ, Bool}
use Rattle.std.specs.List.{count_by, range_with_len}

-- of how many numbers below n the answer is yes
unfoldable pub how_many_below : (ℕ → Bool) → ℕ → ℕ
how_many_below f n = count_by f (range_with_len 0 n)
