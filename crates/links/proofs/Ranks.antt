-- The keys of the segments on the tree.
use Rattle.std.proofs.Common.{◌≡◌, ℕ, ◌-◌, ◌/◌, ◌%◌, ◌<◌, true, false, cond, ltb, ◌⊎◌, Some, None, Option, sym, refl, ap, ◌∙◌, inl, inr, arith}
use Rattle.std.proofs.lemmas.Bool.{cases_eq, cases_Bool, both_ways, eq-eqb, eqb-true, lt-ltb, cond-true, cond-false}
use Rattle.map.specs.declared.side.Side.{Side}
use Rattle.map.specs.Sides.{side_of, opposite, segment}
use Rattle.map.specs.Floors.{beside}
use Rattle.links.specs.Ways.{pair, is_side, key_down, key_at, key_over}
use Rattle.links.proofs.Chains.{Mutual, Within, none_some, same_some}
use Rattle.links.proofs.Nearby.{segment_side, segment_table, segment_small, twice, twice_same, beside_back}
use Rattle.links.proofs.Lines.{upper}
use Rattle.links.proofs.Parents.{TreeOf, Up, step_up, side_at_root}

is_own : (s : Side) → is_side (Some s) s ≡ true
is_own s = eq-eqb _ _ refl

pub is_only : (o : Option Side) (s : Side) → is_side o s ≡ true → o ≡ Some s
is_only None s e = absurd (both_ways false refl e)
is_only (Some r) s e = ap Some (sym (twice_same r) ∙ ap side_of (eqb-true _ _ e) ∙ twice_same s)

module _ (next : ℕ → Side → Option ℕ) (depth : ℕ → ℕ) (side : ℕ → Option Side) where
  pub key_at_lem : (t : ℕ) (s : Side) → t < 256 → key_over next depth side (segment t s) ≡ key_at next depth side t s
  unfolding key_over
  key_at_lem t s h =
      cond-true _ _ _ (lt-ltb _ _ (segment_small t s h))
      ∙ ap (λ x. key_at next depth side x (side_of (segment t s % 4))) (segment_table t s)
      ∙ ap (key_at next depth side t) (segment_side t s)

  pub up_key : (t : ℕ) (s : Side) → t < 256 → side t ≡ Some s → key_over next depth side (segment t s) ≡ pair 0 (255 - depth t)
  up_key t s h e = key_at_lem t s h ∙ cond-true _ _ _ (ap (λ o. is_side o s) e ∙ is_own s)

module _ (near : ℕ → Side → Option ℕ) (back : Mutual near) (within : Within near) (root depth : ℕ → ℕ) (side : ℕ → Option Side) (parent : ℕ → Option ℕ) (tree : TreeOf near root depth side parent) where
  module _ (x : ℕ) (h : x < 256) (u : Up near depth side parent x) where
    down_over : near (upper parent x) (opposite u.to) ≡ Some x
    down_over = back x (upper parent x) u.to u.links

    fits : upper parent x < 256
    fits = (within x (upper parent x) u.to u.links).1

    not_back : side (upper parent x) ≡ Some (opposite u.to) → ⊥
    not_back e =
        elim (cases_eq (depth (upper parent x)) 0) [
          | inl z ↦ none_some _ (sym (side_at_root near back within root depth side parent tree (upper parent x) z) ∙ e)
          | inr n ↦
              (let v : Up near depth side parent (upper parent x) = step_up near back within root depth side parent tree (upper parent x) fits (omega arith) in
              let r : v.to ≡ opposite u.to = same_some _ _ (sym v.side_is ∙ e) in
              let p : upper parent (upper parent x) ≡ x = same_some _ _ (sym v.links ∙ ap (near (upper parent x)) r ∙ down_over) in
              let f : depth (upper parent (upper parent x)) ≡ depth x = ap depth p in
              omega (arith, v.lower, u.lower))
        ]

    no_up : is_side (side (upper parent x)) (opposite u.to) ≡ false
    no_up = elim (cases_Bool (is_side (side (upper parent x)) (opposite u.to))) [ inl y ↦ absurd (not_back (is_only _ _ y)) | inr n ↦ n ]

    pub down_key : key_over near depth side (segment (upper parent x) (opposite u.to)) ≡ pair 1 (depth x)
    down_key =
        key_at_lem near depth side (upper parent x) (opposite u.to) fits
        ∙ cond-false _ _ _ no_up
        ∙ ap (key_down depth side (opposite u.to)) down_over
        ∙ cond-true _ _ _ (ap (is_side (side x)) (twice u.to) ∙ ap (λ o. is_side o u.to) u.side_is ∙ is_own u.to)

-- the sides of parents are those of links
module _ (near : ℕ → Side → Option ℕ) (back : Mutual near) (depth : ℕ → ℕ) (side : ℕ → Option Side) (linked : (t : ℕ) (s : Side) → side t ≡ Some s → (u : ℕ) × (near t s ≡ Some u)) (near_beside : (t u : ℕ) (s : Side) → near t s ≡ Some u → beside 16 16 t s ≡ Some u) where
  -- a neighbour without a link is no child
  down_none : (t : ℕ) (s : Side) → near t s ≡ None → (o : Option ℕ) → beside 16 16 t s ≡ o → key_down depth side s o ≡ pair 2 0
  down_none t s n None e = refl
  down_none t s n (Some u) e = cond-false _ _ _ (no (cases_Bool (is_side (side u) (opposite s))))
    where
      no : (is_side (side u) (opposite s) ≡ true) ⊎ (is_side (side u) (opposite s) ≡ false) → is_side (side u) (opposite s) ≡ false
      no (inr m) = m
      no (inl y) = absurd (
          let l = linked u (opposite s) (is_only _ _ y) in
          let b : beside 16 16 u (opposite s) ≡ Some t = beside_back 16 16 (omega arith) (omega arith) t u s e in
          let is : l.0 ≡ t = same_some _ _ (sym (near_beside u l.0 (opposite s) l.1) ∙ b) in
          let r : near t (opposite (opposite s)) ≡ Some u = ap (λ z. near z (opposite (opposite s))) (sym is) ∙ back u l.0 (opposite s) l.1 in
          none_some u (sym n ∙ ap (near t) (sym (twice s)) ∙ r)
          )

  down_same : (t : ℕ) (s : Side) (o : Option ℕ) → near t s ≡ o → key_down depth side s (beside 16 16 t s) ≡ key_down depth side s o
  down_same t s None n = down_none t s n (beside 16 16 t s) refl
  down_same t s (Some u) e = ap (key_down depth side s) (near_beside t u s e)

  -- on the largest floor the keys are the same
  pub key_same : (n : ℕ) → key_over (beside 16 16) depth side n ≡ key_over near depth side n
  unfolding key_over
  key_same n =
      let t = n / 4 in let s = side_of (n % 4) in
      ap (λ k. cond (ltb n 1024) (cond (is_side (side t) s) (pair 0 (255 - depth t)) k) (pair 2 0)) (down_same t s (near t s) refl)
