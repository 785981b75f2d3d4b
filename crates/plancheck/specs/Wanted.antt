-- Which pairs are wanted, in which order, and how many.
use Rattle.std.specs.Prelude.{◌≡◌, ℕ, ◌-◌, ◌*◌, ◌<◌, true, ◌⊎◌, List, [], ◌∷◌, length, ◌≢◌}
use Rattle.map.specs.Layouts.{Layout, is_stop, stop_count}
use Rattle.plancheck.specs.Pairs.{wanted_pairs}

-- the pair of o and d is among the pairs
abbrev pub PairIn : ℕ → ℕ → List (ℕ × ℕ) → Type 0
PairIn o d [] = ⊥
PairIn o d (p ∷ ps) = ((o ≡ p.0) × (d ≡ p.1)) ⊎ PairIn o d ps

-- p comes before q: its origin is lower, or its destination where the origins are the same
abbrev pub Before : ℕ × ℕ → ℕ × ℕ → Type 0
Before p q = (p.0 < q.0) ⊎ ((p.0 ≡ q.0) × (p.1 < q.1))

-- p comes before each of the pairs
abbrev pub Ahead : ℕ × ℕ → List (ℕ × ℕ) → Type 0
Ahead p [] = Unit {0}
Ahead p (q ∷ qs) = Before p q × Ahead p qs

-- each pair comes before all later ones, so that none comes twice
abbrev pub Rising : List (ℕ × ℕ) → Type 0
Rising [] = Unit {0}
Rising (p ∷ ps) = Ahead p ps × Rising ps

-- the wanted pairs are those of two different stops, rising; k stops have k * k - k of them
pub record AllWanted (m : Layout) : Type 0 where
  pub has : (o d : ℕ) → is_stop m o ≡ true → is_stop m d ≡ true → (o ≢ d) → PairIn o d (wanted_pairs m)
  pub only : (o d : ℕ) → PairIn o d (wanted_pairs m) → (is_stop m o ≡ true) × (is_stop m d ≡ true) × (o ≢ d)
  pub rising : Rising (wanted_pairs m)
  pub count : length (wanted_pairs m) ≡ stop_count m * stop_count m - stop_count m
