-- Numbers below m cannot have more than m values among them.
use Rattle.std.proofs.Common.{◌≡◌, ℕ, zero, suc, ◌-◌, ◌<◌, ◌≤◌, cond, ltb, ◌⊎◌, ap, ◌∙◌, inl, inr, arith}
use Rattle.std.proofs.lemmas.Bool.{cases_lt, lt-ltb, le-ltb, cond-true, cond-false}

-- each number below n is the value of some table below m
abbrev pub Covers : ℕ → ℕ → (ℕ → ℕ) → Type 0
Covers m n value = (k : ℕ) → k < n → (x : ℕ) × (x < m) × (value x ≡ k)

-- the values with v left out, those above it one lower
without : ℕ → (ℕ → ℕ) → ℕ → ℕ
without v value x = cond (ltb v (value x)) (value x - 1) (value x)

without_low : (v : ℕ) (value : ℕ → ℕ) (x : ℕ) → value x ≤ v → without v value x ≡ value x
unfolding without
without_low v value x h = cond-false _ _ _ (le-ltb v (value x) h)

without_high : (v : ℕ) (value : ℕ → ℕ) (x : ℕ) → v < value x → without v value x ≡ value x - 1
unfolding without
without_high v value x h = cond-true _ _ _ (lt-ltb v (value x) h)

module _ (m n : ℕ) (value : ℕ → ℕ) (c : Covers (suc m) (suc n) value) where
  one_less : (k : ℕ) → k < n → (k < value m) ⊎ (value m ≤ k) → (x : ℕ) × (x < m) × (without (value m) value x ≡ k)
  one_less k h (inl low) =
      let at = c k (omega arith) in
      let other : at.0 ≡ m → ⊥ = λ e. let z : value at.0 ≡ value m = ap value e in omega (arith, at.2) in
      (at.0, omega (arith, at.1), without_low (value m) value at.0 (omega (arith, at.2)) ∙ at.2)
  one_less k h (inr high) =
      let at = c (suc k) (omega arith) in
      let other : at.0 ≡ m → ⊥ = λ e. let z : value at.0 ≡ value m = ap value e in omega (arith, at.2) in
      let less : value at.0 - 1 ≡ k = omega (arith, at.2) in
      (at.0, omega (arith, at.1), without_high (value m) value at.0 (omega (arith, at.2)) ∙ less)

pub covered : (m n : ℕ) (value : ℕ → ℕ) → Covers m n value → n ≤ m
covered m zero value c = omega arith
covered zero (suc n) value c = let at = c 0 (omega arith) in absurd (omega (arith, at.1))
covered (suc m) (suc n) value c =
    let rest : n ≤ m = covered m n (without (value m) value) (λ k h. one_less m n value c k h (cases_lt k (value m))) in
    omega arith
