-- What is counted as pairs pass.
use Rattle.std.specs.Prelude.{ℕ, ◌+◌, ◌*◌, ◌≤◌, cond, nat_lt}
use Rattle.plancheck.specs.declared.pass.Pass.{Pass}

abbrev pub larger : ℕ → ℕ → ℕ
larger m n = cond (nat_lt m n) n m

abbrev pub no_pairs : Pass
no_pairs = record { pairs = 0; segments = 0; longest = 0 }

-- one route more, of n segments
abbrev pub counting : Pass → ℕ → Pass
counting a n = record { pairs = a.pairs + 1; segments = a.segments + n; longest = larger a.longest n }

-- at most n pairs are counted, none with more than 960 segments
pub record Few (a : Pass) (n : ℕ) : Type 0 where
  pub pairs : a.pairs ≤ n
  pub segments : a.segments ≤ 960 * a.pairs
