-- The written answer is never that of spent steps, and no route has more than 960 segments.
use Rattle.std.proofs.Common.{◌≡◌, ℕ, zero, suc, ◌+◌, ◌<◌, ◌≤◌, Bool, true, false, List, [], ◌∷◌, length, Some, None, Ok, Err, Option, Result, sym, refl, ap, ◌∙◌, arith}
use Rattle.map.specs.declared.map.Map.{Map}
use Rattle.map.specs.Sides.{segment}
use Rattle.orders.specs.declared.key.KeyOrder as KeyOrder
use Rattle.orders.specs.declared.ranker.Ranker as Ranker
use Rattle.ways.specs.declared.finder.WayFinder as WayFinder
use Rattle.distinct.specs.Rows.{Each, Above, Falling, Irreflexive, Transitive}
use Rattle.distinct.proofs.Holes.{falling_apart}
use Rattle.distinct.proofs.Numbered.{numbered_is_short}
use Rattle.routes.specs.declared.refusal.Refusal.{Refusal}
use Rattle.routes.specs.Routings.{Routing, routing, follows}
use Rattle.routes.specs.Steps.{steps, route_check}
use Rattle.routes.proofs.Places.{Exists, number_of, numbering}
use Rattle.routes.proofs.Turns.{turn}
use Rattle.routes.proofs.Turns.Turn.{refuses, arrives, moves}

pub ok_not_err : (r : Result ℕ Refusal) (n : ℕ) (e : Refusal) → r ≡ Ok n → r ≡ Err e → ⊥
ok_not_err r n e p q = let z : ◌≡◌ {A = ℕ} 0 1 = cc in omega arith

pub ok_same : (r : Result ℕ Refusal) (m n : ℕ) → r ≡ Ok m → r ≡ Ok n → m ≡ n
ok_same r m n p q = cc

-- what every routing of a map, a way-finder and a ranker keeps: the floor's size, and the order of keys
pub record Proper (s : Routing) : Type 0 where
  pub wide : s.map.width ≤ 16
  pub high : s.map.height ≤ 16
  pub irreflexive : Irreflexive s.rises
  pub transitive : Transitive s.rises

pub proper : {W R K : Type 0} (ways : WayFinder.Ghosts W) (ranks : Ranker.Ghosts R K) (keys : KeyOrder.Ghosts K) → ((x : K) → keys.before x x ≡ false) → ((x y z : K) → keys.before x y ≡ true → keys.before y z ≡ true → keys.before x z ≡ true) → (m : Map) (w : W) (r : R) → Proper (routing ways ranks keys m w r)
proper ways ranks keys irreflexive transitive m w r =
    record { wide = m.size.wide.1; high = m.size.high.1; irreflexive = λ x. irreflexive _; transitive = λ x y z. transitive _ _ _ }

-- the segments taken, last first, of which the first is held
abbrev Row : (ℕ → ℕ → Bool) → Option ℕ → List ℕ → Type 0
Row rises None [] = Unit {0}
Row rises None (x ∷ xs) = ⊥
Row rises (Some h) [] = ⊥
Row rises (Some h) (x ∷ xs) = (h ≡ x) × Above rises x xs

row_falls : (rises : ℕ → ℕ → Bool) (h : Option ℕ) (xs : List ℕ) → Row rises h xs → Falling rises xs
row_falls rises None [] r = tt
row_falls rises None (x ∷ xs) r = absurd r
row_falls rises (Some h) [] r = absurd r
row_falls rises (Some h) (x ∷ xs) r = r.1

row_above : (rises : ℕ → ℕ → Bool) (h : Option ℕ) (xs : List ℕ) (q : ℕ) → Row rises h xs → follows rises h q ≡ true → Above rises q xs
row_above rises None [] q r f = tt
row_above rises None (x ∷ xs) q r f = absurd r
row_above rises (Some h) [] q r f = absurd r
row_above rises (Some h) (x ∷ xs) q r f = (ap (λ y. rises y q) (sym r.0) ∙ f, r.1)

module _ (s : Routing) (proper : Proper s) where
  -- a falling row of segments that exist has at most 960
  row_short : (xs : List ℕ) → Each (Exists s.map.width s.map.height) xs → Falling s.rises xs → length xs ≤ 960
  row_short xs e f = numbered_is_short _ number_of 960 (numbering _ _ proper.wide proper.high) xs e (falling_apart s.rises proper.irreflexive proper.transitive xs f)

  module _ (o d : ℕ) where
    within : (j k : ℕ) (h : Option ℕ) (t n : ℕ) (xs : List ℕ) → Row s.rises h xs → Each (Exists s.map.width s.map.height) xs → length xs + j ≡ 961 → k ≡ suc (length xs) → (r : ℕ) → steps s o d j k h t n ≡ Ok r → (0 < r) × (r ≤ 960)
    within zero k h t n xs row e l z r p = let short = row_short xs e (row_falls s.rises h xs row) in absurd (omega arith)
    within (suc j) k h t n xs row e l z r p =
        elim (turn s o d j k h t n) [
          | refuses why q y is ↦ absurd (ok_not_err _ r _ p is)
          | arrives side m u taken x is ↦
              let short = row_short (segment t side ∷ xs) ((u, taken.leads), e) (row_above s.rises h xs (segment t side) row taken.follow) in
              let same = ok_same _ k r is p in
              (omega arith, omega arith)
          | moves side m u taken x is ↦
              let q = segment t side in
              within j (k + 1) (Some q) u m (q ∷ xs) (refl, row_above s.rises h xs q row taken.follow) ((u, taken.leads), e) (omega arith) (omega arith) r (sym is ∙ p)
        ]

    -- the number of segments of a route
    pub counts : (r : ℕ) → route_check s o d ≡ Ok r → (0 < r) × (r ≤ 960)
    counts r e = within 961 1 None o (s.first o d) [] tt tt (omega arith) (omega arith) r e

    pub never : route_check s o d ≡ Ok 0 → ⊥
    never e = let some = (counts 0 e).0 in omega arith
