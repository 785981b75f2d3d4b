-- Adding a pair's via, and removing it.
use Rattle.std.proofs.Common.{◌≡◌, ℕ, suc, true, false, cond, List, [], ◌∷◌, map, set, is_some, Some, None, Option, sym, refl, ap, ◌∙◌, inl, inr, eqb-true}
use Rattle.std.proofs.lemmas.Bool.{cases_Bool, eq-eqb, both_ways, and_parts}
use Rattle.std.proofs.lemmas.Option.{none-some, same_Some}
use Rattle.detour.specs.declared.vias.Via.{Via}
use Rattle.detour.specs.declared.vias.Vias.{Vias}
use Rattle.detour.specs.Vias.{matches, table_in, via_in, later, free_in, cleared, without}
use Rattle.detour.specs.Promises.{ViaSet}

-- a place that is the one pair's is not the other's
other : (o d a b : ℕ) (p : Option Via) → ((a ≡ o) × (b ≡ d) → ⊥) → matches o d p ≡ true → matches a b p ≡ false
other o d a b None ne m = refl
other o d a b (Some v) ne m =
    elim (cases_Bool (matches a b (Some v))) [
      | inr e ↦ e
      | inl e ↦
          let mine = and_parts _ _ m in
          let yours = and_parts _ _ e in
          absurd (ne (sym (eqb-true _ _ yours.0) ∙ eqb-true _ _ mine.0, sym (eqb-true _ _ yours.1) ∙ eqb-true _ _ mine.1))
    ]

module _ (o d t : ℕ) where
  abbrev new : Option Via
  new = Some (record { origin = o; destination = d; table = t })

  its : matches o d new ≡ true
  its = rw (eq-eqb o o refl, eq-eqb d d refl)

  -- what comes after a place that is taken
  after_taken : (ps : List (Option Via)) (i : ℕ) (x : Option ℕ) → free_in ps ≡ x → later x ≡ Some i → (j : ℕ) × (i ≡ suc j) × (free_in ps ≡ Some j)
  after_taken ps i None e f = absurd (none-some i f)
  after_taken ps i (Some j) e f = (j, same_Some _ _ (sym f), e)

  added_this : (ps : List (Option Via)) (i : ℕ) → free_in ps ≡ Some i → via_in ps o d ≡ None → via_in (set ps i new) o d ≡ Some t
  added_this [] i f e = absurd (none-some i f)
  added_this (None ∷ ps) i f e = let at = same_Some _ _ (sym f) in rw (at, its)
  added_this (Some v ∷ ps) i f e =
      let next = after_taken ps i _ refl f in
      elim (cases_Bool (matches o d (Some v))) [
        | inl m ↦ absurd (none-some v.table (sym e ∙ (rw m)))
        | inr m ↦ rw (next.1, m) (added_this ps next.0 next.2 (rw m at e))
      ]

  added_others : (a b : ℕ) → ((a ≡ o) × (b ≡ d) → ⊥) → (ps : List (Option Via)) (i : ℕ) → free_in ps ≡ Some i → via_in (set ps i new) a b ≡ via_in ps a b
  added_others a b ne [] i f = refl
  added_others a b ne (None ∷ ps) i f = let at = same_Some _ _ (sym f) in rw (at, other o d a b new ne its)
  added_others a b ne (Some v ∷ ps) i f =
      let next = after_taken ps i _ refl f in
      rw next.1 (ap (λ x. cond (matches a b (Some v)) (Some v.table) x) (added_others a b ne ps next.0 next.2))

  pub added : (ps : List (Option Via)) (i : ℕ) → free_in ps ≡ Some i → via_in ps o d ≡ None → ViaSet o d (Some t) (record { places = ps }) (record { places = set ps i new })
  added ps i f e = record { this = added_this ps i f e; others = λ a b ne. added_others a b ne ps i f }

module _ (o d : ℕ) where
  removed_this : (ps : List (Option Via)) → via_in (map (cleared o d) ps) o d ≡ None
  removed_this [] = refl
  removed_this (p ∷ ps) =
      elim (cases_Bool (matches o d p)) [
        | inl m ↦ rw m (removed_this ps)
        | inr m ↦ rw (m, m) (removed_this ps)
      ]

  removed_others : (a b : ℕ) → ((a ≡ o) × (b ≡ d) → ⊥) → (ps : List (Option Via)) → via_in (map (cleared o d) ps) a b ≡ via_in ps a b
  removed_others a b ne [] = refl
  removed_others a b ne (p ∷ ps) =
      elim (cases_Bool (matches o d p)) [
        | inl m ↦ rw (m, other o d a b p ne m) (removed_others a b ne ps)
        | inr m ↦ rw m (ap (λ x. cond (matches a b p) (table_in p) x) (removed_others a b ne ps))
      ]

  pub removed : (v : Vias) → ViaSet o d None v (without v o d)
  removed v = record { this = removed_this v.places; others = λ a b ne. removed_others a b ne v.places }

pub is_none : (x : Option ℕ) → is_some x ≡ false → x ≡ None
is_none None e = refl
is_none (Some t) e = absurd (both_ways true e refl)
