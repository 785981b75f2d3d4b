-- An array that is made by a closure which keeps what it captured.
use Rattle.std.proofs.Common.{◌≡◌, ℕ, zero, suc, ◌+◌, ◌<◌, ◌≤◌, List, map, get_or, subst, sym, ◌∙◌, ⊎_elim, arith}
use Rattle.std.proofs.lemmas.Bool.{cases_eq}
use Rattle.std.proofs.lemmas.List.FromFn.{fill_by_all}
use Rattle.std.specs.Array.{IsFromFnResultFrom, IsFromFnResult}
use Rattle.std.specs.Fn.{Called}
use Rattle.std.specs.List.{range_with_len}
use denote.Param.Members.{Mut}

module _ {F B : Type 0} (g : Mut F (ℕ × Unit {0}) B) (f : F) (h : ℕ → B) (each : (i : ℕ) (y : B) (q : F) → Called g f (i, tt) y q → (q ≡ f) × (y ≡ h i)) where
  element : (ys : List B) (i n : ℕ) → IsFromFnResultFrom g f ys i n → (k : ℕ) (d : B) → i ≤ k → k < i + n → get_or ys k d ≡ h k
  element ys i zero m k d low high = absurd (omega arith)
  element ys i (suc n) (q, y, is, called, rest) k d low high =
      let kept = each i y q called in
      let on : IsFromFnResultFrom g f ys (i + 1) n = subst (λ p. IsFromFnResultFrom g p ys (i + 1) n) kept.0 rest in
      ⊎_elim (λ (here : k ≡ i). subst (λ j. get_or ys j d ≡ h j) (sym here) (is.1 d ∙ kept.1))
      (λ later. element ys (i + 1) n on k d (omega (arith, later)) (omega arith))
      (cases_eq k i)

  pub made_at : (ys : List B) (n : ℕ) → IsFromFnResult g f ys n → (k : ℕ) (d : B) → k < n → get_or ys k d ≡ h k
  made_at ys n m k d l = element ys 0 n m.each k d (omega arith) (omega arith)

  pub made : (ys : List B) (n : ℕ) (d : B) → IsFromFnResult g f ys n → ys ≡ map h (range_with_len 0 n)
  made ys n d m = fill_by_all h ys n d m.long (λ k l. made_at ys n m k d l)
