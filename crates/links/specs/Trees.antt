-- The tree of each group: roots, depths and parents.
use Rattle.std.specs.Prelude.{ℕ, zero, suc, ◌+◌, Bool, false, cond, List, [], ◌∷◌, is_some, Some, None, Option, ◌==◌}
use Rattle.map.specs.declared.side.Side.{Side}
use Rattle.map.specs.declared.side.Side.TheVariants.{North, East, South, West}
use Rattle.map.specs.Layouts.{Layout}
use Rattle.links.specs.Links.{near, present}
use Rattle.links.specs.Distances.{distance}

-- the first of n numbers, rising from k, that passes the test
unfoldable pub first_of : (ℕ → Bool) → ℕ → ℕ → Option ℕ
first_of test zero k = None
first_of test (suc n) k = cond (test k) (Some k) (first_of test n (suc k))

-- the lowest table from which links lead to t
unfoldable pub lowest : (ℕ → Side → Option ℕ) → ℕ → Option ℕ
lowest links t = first_of (λ r. is_some (distance links r t)) 256 0

-- the root of the group of t: a closed or missing table is in no group
unfoldable pub root_of : Layout → ℕ → Option ℕ
root_of m t = cond (present m t) (lowest (near m) t) None

-- the links from that root
abbrev pub depth_under : Layout → ℕ → Option ℕ → Option ℕ
depth_under m t None = None
depth_under m t (Some r) = distance (near m) r t

-- the fewest links from the root
unfoldable pub depth_of : Layout → ℕ → Option ℕ
depth_of m t = depth_under m t (root_of m t)

-- the number, or 0 where there is none
abbrev pub or_zero : Option ℕ → ℕ
or_zero None = 0
or_zero (Some n) = n

-- the depth as a number: a table in no group has no links, so that its 0 is never compared
unfoldable pub depth : Layout → ℕ → ℕ
depth m t = or_zero (depth_of m t)

-- the neighbour's depth is one less
abbrev pub nearer : (ℕ → ℕ) → ℕ → Option ℕ → Bool
nearer deep t None = false
nearer deep t (Some u) = deep u + 1 == deep t

-- the neighbour over the link on that side is nearer to the root
abbrev pub leads_up : (ℕ → Side → Option ℕ) → (ℕ → ℕ) → ℕ → Side → Bool
leads_up links deep t s = nearer deep t (links t s)

-- the first of the sides that passes the test
abbrev pub first_side : (Side → Bool) → List Side → Option Side
first_side test [] = None
first_side test (s ∷ ss) = cond (test s) (Some s) (first_side test ss)

-- the first side, in side order, with a neighbour over an open link whose depth is one less
unfoldable pub up_side : (ℕ → Side → Option ℕ) → (ℕ → ℕ) → ℕ → Option Side
up_side links deep t = first_side (leads_up links deep t) (North ∷ East ∷ South ∷ West ∷ [])

-- the table over the link on that side
abbrev pub over : (ℕ → Side → Option ℕ) → ℕ → Option Side → Option ℕ
over links t None = None
over links t (Some s) = links t s

-- the side of the parent: a root has none
unfoldable pub parent_side : Layout → ℕ → Option Side
parent_side m t = up_side (near m) (depth m) t

-- the parent
unfoldable pub parent_of : Layout → ℕ → Option ℕ
parent_of m t = over (near m) t (parent_side m t)
