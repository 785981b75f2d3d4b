-- A table in the tree of its group.
use Rattle.std.specs.Prelude.{ℕ, Some, None, Option}
use Rattle.map.specs.declared.side.Side.{Side}
use Rattle.map.specs.Layouts.{Layout}
use Rattle.links.specs.Links.{near}
use Rattle.links.specs.Trees.{up_side, over}
use Rattle.tree.specs.declared.growth.Growth.{Growth}
use Rattle.tree.specs.declared.upward.Node.{Node}
use Rattle.tree.specs.declared.upward.Up.{Up}
use Rattle.tree.specs.Growths.{root_in, depth_in}

-- a table in no group
abbrev pub alone : Node
alone = record { root = None; depth = 0; up = None }

-- the side of the parent, and the parent
abbrev pub up_by : Option Side → Option ℕ → Option Up
up_by None p = None
up_by (Some s) None = None
up_by (Some s) (Some p) = Some (record { side = s; parent = p })

abbrev pub up_in : Layout → Growth → ℕ → Option Up
up_in m g t = up_by (up_side (near m) (depth_in g) t) (over (near m) t (up_side (near m) (depth_in g) t))

-- the side in what leads up, and the parent
abbrev pub side_up : Option Up → Option Side
side_up None = None
side_up (Some u) = Some u.side

abbrev pub parent_up : Option Up → Option ℕ
parent_up None = None
parent_up (Some u) = Some u.parent

-- a table with the roots and depths that were found
abbrev pub node_in : Layout → Growth → ℕ → Node
node_in m g t = record {
  root = root_in g t;
  depth = depth_in g t;
  up = up_in m g t;
}
