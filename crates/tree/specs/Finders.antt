-- The way and the keys that a tree gives.
use Rattle.std.specs.Prelude.{◌≡◌, ℕ, Option, slice_index_or}
use Rattle.map.specs.declared.side.Side.{Side}
use Rattle.map.specs.Floors.{beside}
use Rattle.map.specs.Layouts.{Layout}
use Rattle.orders.specs.declared.key.Pair.{Pair}
use Rattle.links.specs.Trees.{root_of, depth, parent_side, parent_of}
use Rattle.links.specs.Ways.{way_over, key_over}
use Rattle.tree.specs.declared.tree.Tree.{Tree}
use Rattle.tree.specs.declared.upward.Node.{Node}
use Rattle.tree.specs.Nodes.{alone, side_up, parent_up}

-- what a tree holds of a table
abbrev pub node_of : Tree → ℕ → Node
node_of w t = slice_index_or w.nodes t alone

-- the parts of that as functions of the table
abbrev pub roots_of : Tree → ℕ → Option ℕ
roots_of w t = (node_of w t).root

abbrev pub depths_of : Tree → ℕ → ℕ
depths_of w t = (node_of w t).depth

abbrev pub sides_of : Tree → ℕ → Option Side
sides_of w t = side_up (node_of w t).up

abbrev pub parents_of : Tree → ℕ → Option ℕ
parents_of w t = parent_up (node_of w t).up

-- the tree holds the roots, depths and parents of the map
pub record Holds (m : Layout) (w : Tree) : Type 0 where
  pub roots : (t : ℕ) → roots_of w t ≡ root_of m t
  pub depths : (t : ℕ) → depths_of w t ≡ depth m t
  pub sides : (t : ℕ) → sides_of w t ≡ parent_side m t
  pub parents : (t : ℕ) → parents_of w t ≡ parent_of m t

-- the way over what the tree holds
abbrev pub way_by : Tree → ℕ → ℕ → Option (Side × ℕ)
way_by w t d = way_over (roots_of w) (sides_of w) (parents_of w) t d

-- the keys over what the tree holds: it has no map, so that neighbours are those on the largest floor
abbrev pub key_by : Tree → ℕ → Pair ℕ ℕ
key_by w n = key_over (beside 16 16) (depths_of w) (sides_of w) n
