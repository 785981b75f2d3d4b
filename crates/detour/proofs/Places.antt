-- Places one after another.
use Rattle.std.proofs.Common.{◌≡◌, ℕ, zero, suc, ◌+◌, ◌<◌, ◌≤◌, ltb, true, false, cond, List, [], ◌∷◌, map, get_or, sym, Some, None, Option, refl, ap, ◌∙◌, inl, inr, length, arith}
use Rattle.std.specs.List.{find, position}
use Rattle.std.specs.Option.{is_none}
use Rattle.std.proofs.lemmas.Bool.{cases_Bool, cond-true, lt-ltb, le-ltb, ltb-true, ltb-false}
use Rattle.std.proofs.lemmas.List.{same_lists, get_or-map}
use lib.ListN.{length-map}
use Rattle.detour.specs.declared.vias.Via.{Via}
use Rattle.detour.specs.Vias.{matches, table_in, via_in, later, free_in, cleared}

-- the table in the first place that holds the pair's via
abbrev pub table_found : Option (Option Via) → Option ℕ
table_found None = None
table_found (Some p) = table_in p

pub first_of : (ps : List (Option Via)) (o d : ℕ) → table_found (find (matches o d) ps) ≡ via_in ps o d
first_of [] o d = refl
first_of (p ∷ ps) o d = elim (cases_Bool (matches o d p)) [ inl m ↦ rw m | inr m ↦ rw m (first_of ps o d) ]

later_at : (n m : ℕ) → cond (ltb (1 + n) (suc m)) (Some (1 + n)) None ≡ later (cond (ltb n m) (Some n) None)
later_at n m =
    elim (cases_Bool (ltb n m)) [
      | inl e ↦ let a : ltb (1 + n) (suc m) ≡ true = lt-ltb _ _ (omega (arith, ltb-true n m e)) in rw (a, e) (ap Some (omega arith))
      | inr e ↦ let a : ltb (1 + n) (suc m) ≡ false = le-ltb _ _ (omega (arith, ltb-false n m e)) in rw (a, e)
    ]

pub first_free : (ps : List (Option Via)) → position is_none ps ≡ free_in ps
first_free [] = refl
first_free (None ∷ ps) = cond-true _ _ _ (lt-ltb 0 (suc (length ps)) (omega arith))
first_free (Some v ∷ ps) = later_at _ _ ∙ ap later (first_free ps)

-- the first i places are cleared, and the others are as they were
pub record Cleared (o d : ℕ) (ps qs : List (Option Via)) (i : ℕ) : Type 0 where
  pub long : length qs ≡ length ps
  pub done : (k : ℕ) → k < i → get_or qs k None ≡ cleared o d (get_or ps k None)
  pub rest : (k : ℕ) → i ≤ k → get_or qs k None ≡ get_or ps k None

module _ (o d : ℕ) (ps : List (Option Via)) where
  pub clear_all : (qs : List (Option Via)) (i : ℕ) → length ps ≤ i → Cleared o d ps qs i → qs ≡ map (cleared o d) ps
  clear_all qs i l so =
      let long = so.long in
      same_lists qs (map (cleared o d) ps) (so.long ∙ sym (length-map ps (cleared o d)))
      (λ k x m. in_range qs k None x m ∙ so.done k (omega arith) ∙ sym (get_or-map (cleared o d) ps k None x (omega arith)))
    where
      in_range : (xs : List (Option Via)) (k : ℕ) (x y : Option Via) → k < length xs → get_or xs k y ≡ get_or xs k x
      in_range [] k x y h = absurd (omega arith)
      in_range (z ∷ xs) zero x y h = refl
      in_range (z ∷ xs) (suc k) x y h = in_range xs k x y (omega arith)
