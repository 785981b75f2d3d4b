-- Lists of records and of segments.
use Rattle.std.proofs.Common.{◌≡◌, ℕ, zero, suc, ◌+◌, ◌<◌, List, [], ◌∷◌, length, get_or, drop, set, Some, None, Option, refl, ap, arith, length-drop}
use Rattle.std.proofs.lemmas.Option.{none-some}

module _ {A : Type 0} where
  pub none_some : (x : Option A) (a : A) → x ≡ None → x ≡ Some a → ⊥
  none_some x a p q = cc

  pub nil_cons : (x : A) (xs l : List A) → l ≡ [] → l ≡ x ∷ xs → ⊥
  nil_cons x xs l p q = cc

  pub set_none : (xs : List (Option A)) (i : ℕ) → get_or (set xs i None) i None ≡ None
  set_none [] i = refl
  set_none (x ∷ xs) zero = refl
  set_none (x ∷ xs) (suc i) = set_none xs i

  pub some_in : (xs : List (Option A)) (i : ℕ) (a : A) → get_or xs i None ≡ Some a → i < length xs
  some_in [] i a e = absurd (none-some a e)
  some_in (x ∷ xs) zero a e = omega arith
  some_in (x ∷ xs) (suc i) a e = let less = some_in xs i a e in omega arith

  pub drop_tail : (k : ℕ) (l : List A) (x : A) (xs : List A) → drop k l ≡ x ∷ xs → drop (suc k) l ≡ xs
  drop_tail zero [] x xs e = absurd (nil_cons x xs [] refl e)
  drop_tail zero (y ∷ ys) x xs e = cc
  drop_tail (suc k) [] x xs e = absurd (nil_cons x xs [] refl e)
  drop_tail (suc k) (y ∷ ys) x xs e = drop_tail k ys x xs e

  pub drop_long : (k : ℕ) (l : List A) (x : A) (xs : List A) → drop k l ≡ x ∷ xs → length l ≡ k + suc (length xs)
  drop_long k l x xs e =
      let less = length-drop k l in
      let same = ap length e in
      omega arith
