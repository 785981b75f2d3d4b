-- Chains of links, and the groups, roots and depths that they make.
use Rattle.std.specs.Prelude.{◌≡◌, ℕ, suc, ◌≤◌, Some, Option}
use Rattle.map.specs.declared.side.Side.{Side}

-- n links, one after another, lead from a to b
pub data Chain (near : ℕ → Side → Option ℕ) : ℕ → ℕ → ℕ → Type 0 where
  stay : {a : ℕ} → Chain near a a 0
  link : {a b c n : ℕ} (s : Side) → Chain near a b n → near b s ≡ Some c → Chain near a c (suc n)

-- a and b are in one group
abbrev pub Joined : (ℕ → Side → Option ℕ) → ℕ → ℕ → Type 0
Joined near a b = (n : ℕ) × Chain near a b n

-- n is the fewest links from r to a
pub record DepthOf (near : ℕ → Side → Option ℕ) (r a n : ℕ) : Type 0 where
  pub chain : Chain near r a n
  pub fewest : (i : ℕ) → Chain near r a i → n ≤ i

-- r is the lowest table of the group of a
pub record RootOf (near : ℕ → Side → Option ℕ) (a r : ℕ) : Type 0 where
  pub joined : Joined near r a
  pub lowest : (b : ℕ) → Joined near b a → r ≤ b
