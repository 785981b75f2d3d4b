-- Sums over the trays let in.
use Rattle.std.proofs.Common.{◌≡◌, ℕ, zero, suc, ◌+◌, ◌≤◌, Bool, true, false, sym, refl, ap, ◌∙◌, inl, inr, arith}
use Rattle.std.proofs.lemmas.Bool.{cases_eq}
use Rattle.trays.specs.Words.{one, sum_to}

pub sum_same : (f g : ℕ → ℕ) (k : ℕ) → ((m : ℕ) → 1 ≤ m → m ≤ k → f m ≡ g m) → sum_to f k ≡ sum_to g k
sum_same f g zero e = refl
sum_same f g (suc k) e = omega (arith, sum_same f g k (λ m l r. e m l (omega arith)), e (suc k) (omega arith) (omega arith))

-- one of them is one less
pub sum_fall : (f g : ℕ → ℕ) (n k : ℕ) → 1 ≤ n → n ≤ k → ((m : ℕ) → (m ≡ n → ⊥) → f m ≡ g m) → f n ≡ suc (g n) → sum_to f k ≡ suc (sum_to g k)
sum_fall f g n zero l r e x = absurd (omega arith)
sum_fall f g n (suc k) l r e x =
    elim (cases_eq (suc k) n) [
      | inl i ↦
          let here : f (suc k) ≡ suc (g (suc k)) = ap f i ∙ x ∙ ap (λ y. suc (g y)) (sym i) in
          let before = sum_same f g k (λ m a c. e m (λ j. omega arith)) in
          omega arith
      | inr i ↦
          let here = e (suc k) i in
          let before = sum_fall f g n k l (omega (arith, i)) e x in
          omega arith
    ]

pub one_small : (b : Bool) → one b ≤ 1
one_small true = omega arith
one_small false = omega arith

pub sum_small : (f : ℕ → Bool) (k : ℕ) → sum_to (λ n. one (f n)) k ≤ k
sum_small f zero = omega arith
sum_small f (suc k) = omega (arith, sum_small f k, one_small (f (suc k)))

-- each counts in one of two sums
pub sum_either : (f g : ℕ → ℕ) (k : ℕ) → ((m : ℕ) → 1 ≤ m → m ≤ k → f m + g m ≡ 1) → sum_to f k + sum_to g k ≡ k
sum_either f g zero e = omega arith
sum_either f g (suc k) e = omega (arith, sum_either f g k (λ m l r. e m l (omega arith)), e (suc k) (omega arith) (omega arith))

pub sum_none : (f : ℕ → ℕ) (k : ℕ) → ((m : ℕ) → f m ≡ 0) → sum_to f k ≡ 0
sum_none f zero e = refl
sum_none f (suc k) e = omega (arith, sum_none f k e, e (suc k))

pub sum_holds : (f : ℕ → ℕ) (n k : ℕ) → 1 ≤ n → n ≤ k → f n ≤ sum_to f k
sum_holds f n zero l r = absurd (omega arith)
sum_holds f n (suc k) l r =
    elim (cases_eq n (suc k)) [
      | inl i ↦ let here = ap f i in omega arith
      | inr i ↦ let before = sum_holds f n k l (omega (arith, i)) in omega arith
    ]

-- a sum that is not 0 has a part that is not
pub sum_some : (f : ℕ → ℕ) (k j : ℕ) → sum_to f k ≡ suc j → (n : ℕ) × (f n ≡ 0 → ⊥)
sum_some f zero j e = absurd (omega arith)
sum_some f (suc k) j e =
    elim (cases_eq (f (suc k)) 0) [
      | inl z ↦ sum_some f k j (omega arith)
      | inr x ↦ (suc k, x)
    ]
