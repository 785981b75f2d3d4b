-- The wanted pairs come in rising order.
use Rattle.std.proofs.Common.{ℕ, ◌<◌, Bool, true, false, cond, eqb, List, [], ◌∷◌, ◌++◌, refl, inl, inr}
use Rattle.distinct.specs.Rows.{Each}
use Rattle.plancheck.specs.Pairs.{facing, pairs_from}
use Rattle.plancheck.specs.Wanted.{Ahead, Rising}
use Rattle.plancheck.proofs.Marks.{Climbs}

-- each of some pairs comes before each of others
abbrev AllAhead : List (ℕ × ℕ) → List (ℕ × ℕ) → Type 0
AllAhead [] qs = Unit {0}
AllAhead (p ∷ ps) qs = Ahead p qs × AllAhead ps qs

ahead_both : (p : ℕ × ℕ) (ps qs : List (ℕ × ℕ)) → Ahead p ps → Ahead p qs → Ahead p (ps ++ qs)
ahead_both p [] qs a b = b
ahead_both p (x ∷ ps) qs a b = (a.0, ahead_both p ps qs a.1 b)

rising_both : (ps qs : List (ℕ × ℕ)) → Rising ps → Rising qs → AllAhead ps qs → Rising (ps ++ qs)
rising_both [] qs a b c = b
rising_both (p ∷ ps) qs a b c = (ahead_both p ps qs a.0 c.0, rising_both ps qs a.1 b c.1)

-- what holds of a pair in front of others holds where it is left out
facing_by : (P : List (ℕ × ℕ) → Type 0) (b : Bool) (p : ℕ × ℕ) (ps : List (ℕ × ℕ)) → P ps → P (p ∷ ps) → P (cond b ps (p ∷ ps))
facing_by P true p ps x y = x
facing_by P false p ps x y = y

-- a lower destination
ahead_facing : (o x : ℕ) (ds : List ℕ) → Each (λ y. x < y) ds → Ahead (o, x) (facing o ds)
ahead_facing o x [] e = tt
ahead_facing o x (d ∷ ds) e = let on = ahead_facing o x ds e.1 in facing_by (Ahead (o, x)) (eqb d o) (o, d) (facing o ds) on (inr (refl, e.0), on)

rising_facing : (o : ℕ) (ds : List ℕ) → Climbs ds → Rising (facing o ds)
rising_facing o [] c = tt
rising_facing o (d ∷ ds) c = let on = rising_facing o ds c.1 in facing_by Rising (eqb d o) (o, d) (facing o ds) on (ahead_facing o d ds c.0, on)

-- a lower origin
ahead_later : (p : ℕ × ℕ) (y : ℕ) (ds : List ℕ) → p.0 < y → Ahead p (facing y ds)
ahead_later p y [] l = tt
ahead_later p y (d ∷ ds) l = let on = ahead_later p y ds l in facing_by (Ahead p) (eqb d y) (y, d) (facing y ds) on (inl l, on)

ahead_from : (p : ℕ × ℕ) (stops os : List ℕ) → Each (λ y. p.0 < y) os → Ahead p (pairs_from stops os)
ahead_from p stops [] e = tt
ahead_from p stops (o ∷ os) e = ahead_both p (facing o stops) (pairs_from stops os) (ahead_later p o stops e.0) (ahead_from p stops os e.1)

all_ahead : (o : ℕ) (ds stops os : List ℕ) → Each (λ y. o < y) os → AllAhead (facing o ds) (pairs_from stops os)
all_ahead o [] stops os e = tt
all_ahead o (d ∷ ds) stops os e =
    let on = all_ahead o ds stops os e in
    facing_by (λ ps. AllAhead ps (pairs_from stops os)) (eqb d o) (o, d) (facing o ds) on (ahead_from (o, d) stops os e, on)

pub rising_from : (stops os : List ℕ) → Climbs stops → Climbs os → Rising (pairs_from stops os)
rising_from stops [] c e = tt
rising_from stops (o ∷ os) c e = rising_both (facing o stops) (pairs_from stops os) (rising_facing o stops c) (rising_from stops os c e.1) (all_ahead o stops stops os e.0)
