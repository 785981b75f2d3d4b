-- Climbing from parent to parent.
use Rattle.std.proofs.Common.{◌≡◌, ℕ, zero, suc, ◌-◌, ◌<◌, ◌≤◌, Some, None, Option, sym, refl, ap, ◌∙◌, arith}
use Rattle.std.proofs.lemmas.Bool.{eq-eqb, ne_eqb, cond-true, cond-false}
use Rattle.links.specs.Ways.{child_on, climb}

abbrev pub or_self : Option ℕ → ℕ → ℕ
or_self None t = t
or_self (Some u) t = u

module _ (parent : ℕ → Option ℕ) where
  -- the parent, or the table itself where it has none
  pub upper : ℕ → ℕ
  upper x = or_self (parent x) x

  pub upper_is : (x p : ℕ) → parent x ≡ Some p → upper x ≡ p
  unfolding upper
  upper_is x p e = ap (λ o. or_self o x) e

  pub child_here : (n t x p : ℕ) → 0 < n → parent x ≡ Some p → p ≡ t → child_on parent n t x ≡ Some x
  unfolding child_on
  child_here zero t x p z e f = absurd (omega arith)
  child_here (suc n) t x p z e f = ap (climb (child_on parent n t) t x) e ∙ cond-true _ _ _ (eq-eqb p t f)

  pub child_on_lem : (n t x p : ℕ) → 0 < n → parent x ≡ Some p → (p ≡ t → ⊥) → child_on parent n t x ≡ child_on parent (n - 1) t p
  unfolding child_on
  child_on_lem zero t x p z e h = absurd (omega arith)
  child_on_lem (suc n) t x p z e h =
      let less : n ≡ suc n - 1 = omega arith in
      ap (climb (child_on parent n t) t x) e ∙ cond-false _ _ _ (ne_eqb p t h) ∙ ap (λ j. child_on parent j t p) less

  pub child_top : (n t x : ℕ) → parent x ≡ None → child_on parent n t x ≡ None
  unfolding child_on
  child_top zero t x e = refl
  child_top (suc n) t x e = ap (climb (child_on parent n t) t x) e

  pub child_none : (n t x : ℕ) → n ≡ 0 → child_on parent n t x ≡ None
  unfolding child_on
  child_none zero t x e = refl
  child_none (suc n) t x e = absurd (omega arith)

  -- the table above x by so many parents
  pub above : ℕ → ℕ → ℕ
  above zero x = x
  above (suc k) x = upper (above k x)

  pub above_none : (x : ℕ) → above 0 x ≡ x
  unfolding above
  above_none x = refl

  pub above_more : (k x : ℕ) → above (suc k) x ≡ upper (above k x)
  unfolding above
  above_more k x = refl

  pub above_in : (k x : ℕ) → above k (upper x) ≡ above (suc k) x
  unfolding above
  above_in zero x = refl
  above_in (suc k) x = ap upper (above_in k x)

  -- the table has a parent
  abbrev pub Climbs : ℕ → Type 0
  Climbs x = parent x ≡ Some (upper x)

  climbs_in : (m x : ℕ) → Climbs (above (suc m) x) → Climbs (above m (upper x))
  climbs_in m x e = ap parent (above_in m x) ∙ e ∙ ap (λ y. Some (upper y)) (sym (above_in m x))

  next_in : (m x t : ℕ) → upper (above m (upper x)) ≡ t → upper (above (suc m) x) ≡ t
  next_in m x t e = ap upper (sym (above_in m x)) ∙ e

  first_climb : (x : ℕ) → Climbs (above 0 x) → Climbs x
  first_climb x e = ap parent (sym (above_none x)) ∙ e ∙ ap (λ y. Some (upper y)) (above_none x)

  pub child_at : (i n t x : ℕ) → i < n → ((k : ℕ) → k ≤ i → Climbs (above k x)) → upper (above i x) ≡ t → ((k : ℕ) → k < i → upper (above k x) ≡ t → ⊥) → child_on parent n t x ≡ Some (above i x)
  child_at zero n t x l c e h = child_here n t x (upper x) (omega arith) (first_climb x (c 0 (omega arith))) (ap upper (sym (above_none x)) ∙ e) ∙ ap Some (sym (above_none x))
  child_at (suc i) n t x l c e h =
      child_on_lem n t x (upper x) (omega arith) (first_climb x (c 0 (omega arith))) (λ f. h 0 (omega arith) (ap upper (above_none x) ∙ f))
      ∙ child_at i (n - 1) t (upper x) (omega arith) (λ k l. climbs_in k x (c (suc k) (omega arith))) (ap upper (above_in i x) ∙ e) (λ k l f. h (suc k) (omega arith) (next_in k x t f))
      ∙ ap Some (above_in i x)

  pub child_missed : (i n t x : ℕ) → ((k : ℕ) → k < i → Climbs (above k x)) → parent (above i x) ≡ None → ((k : ℕ) → k < i → upper (above k x) ≡ t → ⊥) → child_on parent n t x ≡ None
  child_missed i zero t x c e h = child_none zero t x refl
  child_missed zero (suc n) t x c e h = child_top (suc n) t x (ap parent (sym (above_none x)) ∙ e)
  child_missed (suc i) (suc n) t x c e h =
      let less : suc n - 1 ≡ n = omega arith in
      child_on_lem (suc n) t x (upper x) (omega arith) (first_climb x (c 0 (omega arith))) (λ f. h 0 (omega arith) (ap upper (above_none x) ∙ f))
      ∙ ap (λ j. child_on parent j t (upper x)) less
      ∙ child_missed i n t (upper x) (λ k l. climbs_in k x (c (suc k) (omega arith))) (ap parent (above_in i x) ∙ e) (λ k l f. h (suc k) (omega arith) (next_in k x t f))
