-- Different numbers that can be numbered below n are at most n.
use Rattle.std.proofs.Common.{◌≡◌, ℕ, suc, ◌≤◌, List, [], ◌∷◌, map, length, refl, ap, subst}
use Rattle.distinct.specs.Rows.{Away, Apart, Each, Below, Numbering, Numbered-is-short}
use Rattle.distinct.proofs.Holes.{pigeonhole}

module _ (P : ℕ → Type 0) (f : ℕ → ℕ) (n : ℕ) (by : Numbering P f n) where
  below : (xs : List ℕ) → Each P xs → Below n (map f xs)
  below [] e = tt
  below (x ∷ xs) e = (by.below x e.0, below xs e.1)

  away : (x : ℕ) → P x → (xs : List ℕ) → Each P xs → Away x xs → Away (f x) (map f xs)
  away x p [] e a = tt
  away x p (y ∷ ys) e a = (λ same. a.0 (by.apart x y p e.0 same), away x p ys e.1 a.1)

  apart : (xs : List ℕ) → Each P xs → Apart xs → Apart (map f xs)
  apart [] e a = tt
  apart (x ∷ xs) e a = (away x e.0 xs e.1 a.0, apart xs e.1 a.1)

  as_long : (xs : List ℕ) → length (map f xs) ≡ length xs
  as_long [] = refl
  as_long (x ∷ xs) = ap suc (as_long xs)

pub numbered_is_short : Numbered-is-short
numbered_is_short P f n by xs e a =
    subst (λ l. l ≤ n) (as_long P f n by xs) (pigeonhole n (map f xs) (below P f n by xs e) (apart P f n by xs e a))
