-- Counting flags, and setting one of them.
use Rattle.std.proofs.Common.{◌≡◌, ℕ, zero, suc, ◌+◌, ◌<◌, Bool, true, false, cond, List, [], ◌∷◌, length, get_or, set, replicate, sym, refl, ap, ◌∙◌, inl, inr, arith, get_or-set_other}
use Rattle.std.proofs.lemmas.Bool.{cases_eq}
use Rattle.map.specs.Counts.{how_many}

pub none_set : (n t : ℕ) → get_or (replicate n false) t false ≡ false
none_set zero t = refl
none_set (suc n) zero = refl
none_set (suc n) (suc t) = none_set n t

pub none_counted : (n : ℕ) → how_many (replicate n false) ≡ 0
none_counted zero = refl
none_counted (suc n) = omega (arith, none_counted n)

-- setting a flag takes away what stood there, and adds what stands there now
pub count_set : (bs : List Bool) (i : ℕ) (b : Bool) → i < length bs → how_many (set bs i b) + cond (get_or bs i false) 1 0 ≡ how_many bs + cond b 1 0
count_set [] i b h = absurd (omega arith)
count_set (x ∷ xs) zero b h = omega arith
count_set (x ∷ xs) (suc i) b h = let k : i < length xs = omega arith in omega (arith, count_set xs i b k)

-- a flag that is set is in range
pub set_within : (bs : List Bool) (i : ℕ) → get_or bs i false ≡ true → i < length bs
set_within [] i e = let z : ◌≡◌ {A = ℕ} 0 1 = ap (λ b. cond b 1 0) e in absurd (omega arith)
set_within (x ∷ xs) zero e = omega arith
set_within (x ∷ xs) (suc i) e = let k = set_within xs i e in omega arith

weight : Bool → ℕ
weight b = cond b 1 0

-- how many flags are set beside the one at i
pub others_of_set : (bs : List Bool) (i : ℕ) → get_or bs i false ≡ true → how_many (set bs i false) + 1 ≡ how_many bs
unfolding weight
others_of_set bs i e = omega (arith, count_set bs i false (set_within bs i e), ap weight e)

pub one_more : (bs : List Bool) (i : ℕ) → i < length bs → get_or bs i false ≡ false → how_many (set bs i true) ≡ how_many bs + 1
unfolding weight
one_more bs i h e = omega (arith, count_set bs i true h, ap weight e)

-- flags stand only where f holds, and so after one is set where f holds
pub set_there : (f : ℕ → Bool) (bs : List Bool) (i : ℕ) (b : Bool) → f i ≡ true → ((k : ℕ) → get_or bs k false ≡ true → f k ≡ true) → (k : ℕ) → get_or (set bs i b) k false ≡ true → f k ≡ true
set_there f bs i b here there k e =
    elim (cases_eq k i) [
      | inl same ↦ ap f same ∙ here
      | inr ne ↦ there k (sym (get_or-set_other bs i k b false ne) ∙ e)
    ]
