-- A row of different numbers below n has at most n of them, and a falling row repeats nothing.
use Rattle.std.proofs.Common.{◌≡◌, ℕ, zero, suc, ◌<◌, ◌≤◌, Bool, true, List, [], ◌∷◌, length, sym, ap, ◌∙◌, inl, inr, arith}
use Rattle.std.proofs.lemmas.Bool.{cases_eq, both_ways}
use Rattle.distinct.specs.Rows.{Away, Apart, Below, Above, Falling, Irreflexive, Transitive, Pigeonhole}

-- what is left of a row when n is taken out
record Left (n : ℕ) (xs : List ℕ) : Type 0 where
  ys : List ℕ
  apart : Apart ys
  below : Below n ys
  long : length xs ≤ suc (length ys)
  away : (x : ℕ) → Away x xs → Away x ys

lower : (n : ℕ) (xs : List ℕ) → Away n xs → Below (suc n) xs → Below n xs
lower n [] a b = tt
lower n (x ∷ xs) a b =
    let ne = a.0 in
    let lt = b.0 in
    let less : x < n = elim (cases_eq n x) [ inl e ↦ absurd (ne e) | inr d ↦ elim (cases_eq x n) [ inl e ↦ absurd (d (sym e)) | inr f ↦ omega arith ] ] in
    (less, lower n xs a.1 b.1)

module _ (n : ℕ) where
  left_here : (x : ℕ) (xs : List ℕ) → n ≡ x → Apart (x ∷ xs) → Below (suc n) (x ∷ xs) → Left n (x ∷ xs)
  left_here x xs e a b =
      record { ys = xs; apart = a.1; below = lower n xs (rw e a.0) b.1; long = omega arith; away = λ y h. h.1 }

  left_on : (x : ℕ) (xs : List ℕ) → (n ≡ x → ⊥) → Apart (x ∷ xs) → Below (suc n) (x ∷ xs) → Left n xs → Left n (x ∷ xs)
  left_on x xs d a b l =
      let lt = b.0 in
      let long = l.long in
      record { ys = x ∷ l.ys; apart = (l.away x a.0, l.apart); below = (omega arith, l.below); long = omega arith; away = λ y h. (h.0, l.away y h.1) }

  left : (xs : List ℕ) → Apart xs → Below (suc n) xs → Left n xs
  left [] a b = record { ys = []; apart = tt; below = tt; long = omega arith; away = λ y h. tt }
  left (x ∷ xs) a b = elim (cases_eq n x) [ inl e ↦ left_here x xs e a b | inr d ↦ left_on x xs d a b (left xs a.1 b.1) ]

pub pigeonhole : Pigeonhole
pigeonhole zero [] b a = omega arith
pigeonhole zero (x ∷ xs) b a = let no-x = b.0 in absurd (omega arith)
pigeonhole (suc n) xs b a =
    let l = left n xs a b in
    let short = pigeonhole n l.ys l.below l.apart in
    let long = l.long in
    omega arith

module _ (rises : ℕ → ℕ → Bool) (irreflexive : Irreflexive rises) (transitive : Transitive rises) where
  -- what stands above the first of a falling row is not in it
  above_away : (x y : ℕ) (ys : List ℕ) → rises y x ≡ true → Above rises y ys → Away x (y ∷ ys)
  above_away x y [] up a = (λ e. both_ways (rises x x) (irreflexive x) (ap (λ z. rises z x) e ∙ up), tt)
  above_away x y (z ∷ zs) up a =
      (λ e. both_ways (rises x x) (irreflexive x) (ap (λ z. rises z x) e ∙ up), above_away x z zs (transitive z y x a.0 up) a.1)

  above_apart : (x : ℕ) (xs : List ℕ) → Above rises x xs → Apart (x ∷ xs)
  above_apart x [] a = (tt, tt)
  above_apart x (y ∷ ys) a = (above_away x y ys a.0 a.1, above_apart y ys a.1)

  pub falling_apart : (xs : List ℕ) → Falling rises xs → Apart xs
  falling_apart [] f = tt
  falling_apart (x ∷ xs) f = above_apart x xs f
