-- The larger of two numbers.
use Rattle.std.proofs.Common.{◌≡◌, ℕ, ◌<◌, ◌≤◌, inl, inr, arith}
use Rattle.std.proofs.lemmas.Bool.{cases_lt, lt-ltb, le-ltb}
use Rattle.plancheck.specs.Totals.{larger}

pub larger_larger : (a b c : ℕ) → larger (larger a b) c ≡ larger a (larger b c)
larger_larger a b c =
    elim (cases_lt a b) [
      | inl p ↦ elim (cases_lt b c) [
        | inl q ↦ let r : a < c = omega arith in rw (lt-ltb a b p, lt-ltb b c q, lt-ltb a c r)
        | inr q ↦ rw (lt-ltb a b p, le-ltb b c q, lt-ltb a b p)
      ]
      | inr p ↦ elim (cases_lt b c) [
        | inl q ↦ rw (le-ltb a b p, lt-ltb b c q)
        | inr q ↦ let r : c ≤ a = omega arith in rw (le-ltb a b p, le-ltb b c q, le-ltb a c r, le-ltb a b p)
      ]
    ]

pub larger_none : (a : ℕ) → larger 0 a ≡ a
larger_none a = elim (cases_lt 0 a) [ inl p ↦ rw (lt-ltb 0 a p) | inr p ↦ rw (le-ltb 0 a p) (omega arith) ]

pub larger_zero : (a : ℕ) → larger a 0 ≡ a
larger_zero a = rw (le-ltb a 0 (omega arith))

pub first_within : (a b : ℕ) → a ≤ larger a b
first_within a b = elim (cases_lt a b) [ inl p ↦ rw (lt-ltb a b p) (omega arith) | inr p ↦ rw (le-ltb a b p) (omega arith) ]

pub second_within : (a b : ℕ) → b ≤ larger a b
second_within a b = elim (cases_lt a b) [ inl p ↦ rw (lt-ltb a b p) (omega arith) | inr p ↦ rw (le-ltb a b p) p ]
