-- How many pairs are wanted.
use Rattle.std.proofs.Common.{◌≡◌, ℕ, suc, ◌+◌, ◌*◌, List, [], ◌∷◌, length, sym, refl, ap, subst, inl, inr, suc-mul, zero-mul, arith, length-append}
use Rattle.std.proofs.lemmas.Bool.{cases_eq, eq-eqb, ne_eqb}
use Rattle.distinct.specs.Rows.{In, Away, Apart}
use Rattle.plancheck.specs.Pairs.{facing, pairs_from}

away_facing : (o : ℕ) (ds : List ℕ) → Away o ds → length (facing o ds) ≡ length ds
away_facing o [] a = refl
away_facing o (d ∷ ds) a = rw (ne_eqb d o (λ e. a.0 (sym e))) (ap suc (away_facing o ds a.1))

facing_length : (o : ℕ) (ds : List ℕ) → Apart ds → In o ds → suc (length (facing o ds)) ≡ length ds
facing_length o [] a i = absurd i
facing_length o (d ∷ ds) a (inl e) = rw (eq-eqb d o (sym e)) (ap suc (away_facing o ds (subst (λ y. Away y ds) (sym e) a.0)))
facing_length o (d ∷ ds) a (inr i) =
    elim (cases_eq d o) [
      | inl e ↦ rw (eq-eqb d o e) (ap suc (away_facing o ds (subst (λ y. Away y ds) e a.0)))
      | inr e ↦ rw (ne_eqb d o e) (ap suc (facing_length o ds a.1 i))
    ]

pub from_length : (stops os : List ℕ) → Apart stops → ((o : ℕ) → In o os → In o stops) → length (pairs_from stops os) + length os ≡ length os * length stops
from_length stops [] a h = sym (zero-mul (length stops))
from_length stops (o ∷ os) a h =
    let one = facing_length o stops a (h o (inl refl)) in
    let more = from_length stops os a (λ x i. h x (inr i)) in
    let joined = length-append (facing o stops) (pairs_from stops os) in
    let split : suc (length os) * length stops ≡ length os * length stops + length stops = suc-mul (length os) (length stops) in
    omega arith
