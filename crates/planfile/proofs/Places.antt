-- A test at places one after another.
use Rattle.std.proofs.Common.{◌≡◌, ℕ, zero, suc, ◌+◌, ◌<◌, length, Bool, true, false, ◌&&◌, sym, refl, ap, ◌∙◌, inl, inr, add-zero, arith}
use Rattle.std.proofs.lemmas.List.FromFn.{length-range_with_len, get_or-range_with_len}
use Rattle.std.proofs.lemmas.Bool.{and_parts, and_from, both_ways, cases_Bool}
use Rattle.std.specs.Bool.{MatchBool}
use Rattle.std.specs.List.{AllWithin, HoldsAt, range_with_len}
use Rattle.planfile.specs.Layouts.{all_from}

module _ (test : ℕ → Bool) where
  pub each_of_all : (m p k : ℕ) → all_from test m p ≡ true → k < m → test (p + k) ≡ true
  unfolding all_from
  each_of_all zero p k a h = absurd (omega arith)
  each_of_all (suc m) p zero a h = rw add-zero (and_parts _ _ a).0
  each_of_all (suc m) p (suc k) a h =
      let same : p + 1 + k ≡ p + suc k = omega arith in
      ap test (sym same) ∙ each_of_all m (p + 1) k (and_parts _ _ a).1 (omega arith)

  pub all_of_each : (m p : ℕ) → ((k : ℕ) → k < m → test (p + k) ≡ true) → all_from test m p ≡ true
  unfolding all_from
  all_of_each zero p each = refl
  all_of_each (suc m) p each =
      let here : p + 0 ≡ p = omega arith in
      and_from _ _ (ap test (sym here) ∙ each 0 (omega arith))
      (all_of_each m (p + 1) (λ k h. let same : p + 1 + k ≡ p + (k + 1) = omega arith in ap test same ∙ each (k + 1) (omega arith)))

  pub one_fails : (m p : ℕ) → all_from test m p ≡ false → (k : ℕ) × (k < m) × (test (p + k) ≡ false)
  unfolding all_from
  one_fails zero p a = absurd (both_ways true a refl)
  one_fails (suc m) p a =
      elim (cases_Bool (test p)) [
        | inr fails ↦ let here : p + 0 ≡ p = omega arith in (0, omega arith, ap test here ∙ fails)
        | inl so ↦
            let rest = one_fails m (p + 1) (ap (λ b. b && all_from test m (p + 1)) (sym so) ∙ a) in
            let same : p + (rest.0 + 1) ≡ p + 1 + rest.0 = omega arith in
            (rest.0 + 1, omega (arith, rest.1), ap test same ∙ rest.2)
      ]

  -- a test of the places from p on, by std's words
  pub tested : (m p : ℕ) (r : Bool)
      → MatchBool r (AllWithin (λ k. test k ≡ true) (range_with_len p m) 0 (length (range_with_len p m))) ((k : ℕ) × (k < length (range_with_len p m)) × HoldsAt (λ k. test k ≡ false) (range_with_len p m) k)
      → r ≡ all_from test m p
  tested m p true each = sym (all_of_each m p (λ k h. let long = length-range_with_len p m in ap test (sym (get_or-range_with_len p m k 0 h)) ∙ each k 0 (omega arith) (omega arith)))
  tested m p false (k, within, fails) =
      elim (cases_Bool (all_from test m p)) [
        | inr fail ↦ sym fail
        | inl so ↦
            let h : k < m = omega (arith, within, length-range_with_len p m) in
            absurd (both_ways (test (p + k)) (ap test (sym (get_or-range_with_len p m k 0 h)) ∙ fails 0) (each_of_all m p k so h))
      ]
