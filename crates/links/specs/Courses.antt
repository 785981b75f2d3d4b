-- Where the ways of the tree lead.
use Rattle.std.specs.Prelude.{◌≡◌, ℕ, suc, ◌<◌, Bool, true, ◌&&◌, ◌||◌, Some, None, ◌==◌, ◌≢◌, nat_lt}
use Rattle.map.specs.declared.side.Side.{Side}
use Rattle.map.specs.Sides.{segment}
use Rattle.map.specs.Layouts.{Layout, head_in, open_in}
use Rattle.orders.specs.declared.key.Pair.{Pair}
use Rattle.links.specs.Links.{near, present}
use Rattle.links.specs.Groups.{Joined, DepthOf, RootOf}
use Rattle.links.specs.Trees.{root_of, depth_of}
use Rattle.links.specs.Ways.{tree_way, tree_key}

-- pairs of numbers: the first parts by size, and where they are the same the second parts by size
abbrev pub pair_before : Pair ℕ ℕ → Pair ℕ ℕ → Bool
pair_before x y = nat_lt x.first y.first || (x.first == y.first && nat_lt x.second y.second)

-- the ways from t lead to d, step by step, over open segments whose keys rise, and arrive once
pub record Course (m : Layout) (t d : ℕ) : Type 0 where
  pub len : ℕ
  pub table : ℕ → ℕ
  pub side : ℕ → Side
  pub starts : table 0 ≡ t
  pub some : 0 < len
  pub asks : (k : ℕ) → k < len → tree_way m (table k) d ≡ Some (side k, 0)
  pub leads : (k : ℕ) → k < len → head_in m (segment (table k) (side k)) ≡ Some (table (suc k))
  pub opens : (k : ℕ) → k < len → open_in m (segment (table k) (side k)) ≡ true
  pub rise : (k : ℕ) → suc k < len → pair_before (tree_key m (segment (table k) (side k))) (tree_key m (segment (table (suc k)) (side (suc k)))) ≡ true
  pub ends : table len ≡ d
  pub not_sooner : (k : ℕ) → 0 < k → k < len → table k ≢ d

-- between tables that open links join the ways lead there; there is no way at the destination, to another
-- group, or from or to a closed or missing table
pub record Leads (m : Layout) : Type 0 where
  pub joined : (t d : ℕ) → (t ≢ d) → Joined (near m) t d → Course m t d
  pub parted : (t d : ℕ) → (Joined (near m) t d → ⊥) → tree_way m t d ≡ None
  pub there : (d : ℕ) → tree_way m d d ≡ None
  pub none_from : (t d : ℕ) → (present m t ≢ true) → tree_way m t d ≡ None
  pub none_to : (t d : ℕ) → (present m d ≢ true) → tree_way m t d ≡ None

-- roots are the lowest tables of groups, depths the fewest links from there, and what is closed or
-- missing has neither
pub record Meaning (m : Layout) : Type 0 where
  pub roots : (t : ℕ) → present m t ≡ true → (r : ℕ) × (root_of m t ≡ Some r) × RootOf (near m) t r
  pub depths : (t r : ℕ) → root_of m t ≡ Some r → (e : ℕ) × (depth_of m t ≡ Some e) × DepthOf (near m) r t e
  pub no_root : (t : ℕ) → (present m t ≢ true) → root_of m t ≡ None
  pub no_depth : (t : ℕ) → (present m t ≢ true) → depth_of m t ≡ None
