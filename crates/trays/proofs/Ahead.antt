-- A route as a list: what a tray has ahead of it.
use Rattle.std.proofs.Common.{◌≡◌, ℕ, ◌<◌, ◌≤◌, Bool, true, false, List, [], ◌∷◌, length, Some}
use Rattle.trays.specs.Sites.{Site, two_stops}

module _ (s : Site) (rises : ℕ → ℕ → Bool) (d : ℕ) where
  -- from the segment p, taken with the note m, the segments qs are the rest of the way to d
  abbrev pub Ahead : ℕ → ℕ → List ℕ → Type 0
  Ahead p m [] = s.head p ≡ Some d
  Ahead p m (q ∷ qs) =
      (u n : ℕ) × (s.head p ≡ Some u) × (u ≡ d → ⊥) × (s.wants u d m ≡ Some (q, n)) × (s.opens q ≡ true) × (rises p q ≡ true) × Ahead q n qs

  abbrev pub Route : ℕ → List ℕ → Type 0
  Route o [] = ⊥
  Route o (q ∷ qs) = (n : ℕ) × (s.wants o d (s.first o d) ≡ Some (q, n)) × (s.opens q ≡ true) × Ahead q n qs

-- each pair of different stops has its route
abbrev pub Routed : Site → (ℕ → ℕ → Bool) → (ℕ → ℕ → List ℕ) → Type 0
Routed s rises routes = (o d : ℕ) → two_stops s o d ≡ true → Route s rises d o (routes o d)

-- and none has more segments
abbrev pub Within : Site → (ℕ → ℕ → List ℕ) → ℕ → Type 0
Within s routes most = (o d : ℕ) → two_stops s o d ≡ true → length (routes o d) ≤ most

-- keys rise strictly: no segment is above itself, and what is above what is above is above
pub record Strict (rises : ℕ → ℕ → Bool) : Type 0 where
  pub irreflexive : (x : ℕ) → rises x x ≡ false
  pub transitive : (x y z : ℕ) → rises x y ≡ true → rises y z ≡ true → rises x z ≡ true

-- a segment that exists has a record
abbrev pub Small : Site → Type 0
Small s = (q u : ℕ) → s.head q ≡ Some u → q < 1024
