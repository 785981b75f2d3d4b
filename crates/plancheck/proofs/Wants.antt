-- The wanted pairs are those of different stops.
use Rattle.std.proofs.Common.{◌≡◌, ℕ, ◌⊎◌, List, [], ◌∷◌, ◌++◌, sym, refl, ◌∙◌, subst, inl, inr}
use Rattle.std.proofs.lemmas.Bool.{cases_eq, eq-eqb, ne_eqb}
use Rattle.distinct.specs.Rows.{In}
use Rattle.plancheck.specs.Pairs.{facing, pairs_from}
use Rattle.plancheck.specs.Wanted.{PairIn}

module _ (o d : ℕ) where
  in_left : (ps qs : List (ℕ × ℕ)) → PairIn o d ps → PairIn o d (ps ++ qs)
  in_left [] qs i = absurd i
  in_left (p ∷ ps) qs (inl e) = inl e
  in_left (p ∷ ps) qs (inr i) = inr (in_left ps qs i)

  in_right : (ps qs : List (ℕ × ℕ)) → PairIn o d qs → PairIn o d (ps ++ qs)
  in_right [] qs i = i
  in_right (p ∷ ps) qs i = inr (in_right ps qs i)

  in_either : (ps qs : List (ℕ × ℕ)) → PairIn o d (ps ++ qs) → PairIn o d ps ⊎ PairIn o d qs
  in_either [] qs i = inr i
  in_either (p ∷ ps) qs (inl e) = inl (inl e)
  in_either (p ∷ ps) qs (inr i) = elim (in_either ps qs i) [ inl j ↦ inl (inr j) | inr j ↦ inr j ]

  facing_has : (ds : List ℕ) → In d ds → (o ≡ d → ⊥) → PairIn o d (facing o ds)
  facing_has [] i ne = absurd i
  facing_has (x ∷ ds) (inl e) ne = rw (ne_eqb x o (λ f. ne (sym f ∙ sym e))) (inl (refl, e))
  facing_has (x ∷ ds) (inr i) ne =
      elim (cases_eq x o) [
        | inl f ↦ rw (eq-eqb x o f) (facing_has ds i ne)
        | inr f ↦ rw (ne_eqb x o f) (inr (facing_has ds i ne))
      ]

  pub from_has : (stops os : List ℕ) → In o os → In d stops → (o ≡ d → ⊥) → PairIn o d (pairs_from stops os)
  from_has stops [] i j ne = absurd i
  from_has stops (x ∷ os) (inl e) j ne = in_left (facing x stops) (pairs_from stops os) (subst (λ y. PairIn o d (facing y stops)) e (facing_has stops j ne))
  from_has stops (x ∷ os) (inr i) j ne = in_right (facing x stops) (pairs_from stops os) (from_has stops os i j ne)

  -- a wanted pair, taken apart
  pub record Parts (stops os : List ℕ) : Type 0 where
    pub from : In o os
    pub to : In d stops
    pub differ : o ≡ d → ⊥

  facing_parts : (x : ℕ) (ds : List ℕ) → PairIn o d (facing x ds) → (o ≡ x) × In d ds × (o ≡ d → ⊥)
  facing_parts x [] i = absurd i
  facing_parts x (y ∷ ds) i =
      elim (cases_eq y x) [
        | inl f ↦ let r = facing_parts x ds (rw (eq-eqb y x f) at i) in (r.0, inr r.1, r.2)
        | inr f ↦
            let split : PairIn o d ((x, y) ∷ facing x ds) = rw (ne_eqb y x f) at i in
            elim split [
              | inl e ↦ (e.0, inl e.1, λ g. f (sym e.1 ∙ sym g ∙ e.0))
              | inr j ↦ let r = facing_parts x ds j in (r.0, inr r.1, r.2)
            ]
      ]

  pub from_parts : (stops os : List ℕ) → PairIn o d (pairs_from stops os) → Parts stops os
  from_parts stops [] i = absurd i
  from_parts stops (x ∷ os) i =
      elim (in_either (facing x stops) (pairs_from stops os) i) [
        | inl j ↦ let r = facing_parts x stops j in record { from = inl r.0; to = r.1; differ = r.2 }
        | inr j ↦ let r = from_parts stops os j in record { from = inr r.from; to = r.to; differ = r.differ }
      ]
