-- The two loops of the check, each turn of which checks the pairs of one table more.
use Rattle.std.proofs.Common.{◌≡◌, ℕ, ◌+◌, Bool, true, false, cond, [], List, ◌∷◌, ◌++◌, Ok, Err, Result, sym, refl, ap, ◌∙◌, ◌==◌}
use Rattle.map.specs.Layouts.{Layout, is_stop}
use Rattle.routes.specs.declared.refusal.Refusal.{Refusal}
use Rattle.routes.specs.Routings.{Routing}
use Rattle.plancheck.specs.declared.pass.Pass.{Pass}
use Rattle.plancheck.specs.Pairs.{stops_of, stop_at, facing, pairs_from, pairs_of}
use Rattle.plancheck.specs.Plans.{check_pairs}
use Rattle.plancheck.proofs.Joins.{and_then, join}
use Rattle.plancheck.proofs.Marks.{left, left_here}

-- pairs that are taken table by table: those of table i, and then those from the next table on
module _ (s : Routing) (here from : ℕ → List (ℕ × ℕ)) (splits : (i : ℕ) → from i ≡ here i ++ from (i + 1)) (whole : Result Pass Refusal) (i : ℕ) (b : Pass) (rest : check_pairs s b (from i) ≡ whole) where
  next : and_then (check_pairs s b (here i)) (λ c. check_pairs s c (from (i + 1))) ≡ whole
  next = sym (ap (check_pairs s b) (splits i) ∙ join s (from (i + 1)) (here i) b) ∙ rest

  pub goes_on : (c : Pass) → Ok c ≡ check_pairs s b (here i) → check_pairs s c (from (i + 1)) ≡ whole
  goes_on c e = rw (sym e) at next

  pub fails : (e : Refusal) → Err e ≡ check_pairs s b (here i) → Err e ≡ whole
  fails e f = rw (sym f) at next

one_pair : (b : Bool) (p : ℕ × ℕ) (ps : List (ℕ × ℕ)) → cond b ps (p ∷ ps) ≡ cond b [] (p ∷ []) ++ ps
one_pair true p ps = refl
one_pair false p ps = refl

module _ (m : Layout) where
  -- the pairs from o to the stops from table i on
  abbrev pub to_left : ℕ → ℕ → List (ℕ × ℕ)
  to_left o i = facing o (left m.stops i)

  -- the pairs from the stops from table i on
  abbrev pub from_left : ℕ → List (ℕ × ℕ)
  from_left i = pairs_from (stops_of m) (left m.stops i)

  to_split : (o i : ℕ) (b : Bool) (ds : List ℕ) → facing o (cond b (i ∷ ds) ds) ≡ facing o (cond b (i ∷ []) []) ++ facing o ds
  to_split o i true ds = one_pair (i == o) (o, i) (facing o ds)
  to_split o i false ds = refl

  from_split : (i : ℕ) (b : Bool) (os : List ℕ) → pairs_from (stops_of m) (cond b (i ∷ os) os) ≡ cond b (facing i (stops_of m)) [] ++ pairs_from (stops_of m) os
  from_split i true os = refl
  from_split i false os = refl

  pub to_splits : (o i : ℕ) → to_left o i ≡ facing o (stop_at m i) ++ to_left o (i + 1)
  to_splits o i = ap (facing o) (left_here m.stops i) ∙ to_split o i (is_stop m i) (left m.stops (i + 1))

  pub from_splits : (i : ℕ) → from_left i ≡ pairs_of m i ++ from_left (i + 1)
  from_splits i = ap (pairs_from (stops_of m)) (left_here m.stops i) ∙ from_split i (is_stop m i) (left m.stops (i + 1))
