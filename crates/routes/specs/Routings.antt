-- What routes depend on: the way-finder's two functions, the map, and which segment's key is before which.
use Rattle.std.specs.Prelude.{ℕ, Bool, true, Some, None, Option}
use Rattle.map.specs.declared.side.Side.{Side}
use Rattle.map.specs.declared.map.Map.{Map}
use Rattle.map.specs.Layouts.{Layout, layout}
use Rattle.orders.specs.declared.key.KeyOrder as KeyOrder
use Rattle.orders.specs.declared.ranker.Ranker as Ranker
use Rattle.ways.specs.declared.finder.WayFinder as WayFinder

pub record Routing : Type 0 where
  pub first : ℕ → ℕ → ℕ
  pub way : ℕ → ℕ → ℕ → Option (Side × ℕ)
  pub map : Layout
  pub rises : ℕ → ℕ → Bool

-- the one segment's key is before the other's
abbrev pub by_key : {K : Type 0} → (K → K → Bool) → (ℕ → K) → ℕ → ℕ → Bool
by_key before key a b = before (key a) (key b)

-- of a map, a way-finder and a ranker, each with what its trait says of it
abbrev pub routing : {W R K : Type 0} → WayFinder.Ghosts W → Ranker.Ghosts R K → KeyOrder.Ghosts K → Map → W → R → Routing
routing ways ranks keys m w r = record { first = ways.first w; way = ways.way w; map = layout m; rises = by_key keys.before (ranks.key r) }

-- whether segment q may be wanted while h is held: at the first step nothing is held
abbrev pub follows : (ℕ → ℕ → Bool) → Option ℕ → ℕ → Bool
follows rises None q = true
follows rises (Some h) q = rises h q
