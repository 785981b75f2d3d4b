-- The tree's way from table t to table d, and the tree's keys.
use Rattle.std.specs.Prelude.{ℕ, zero, suc, ◌-◌, ◌/◌, ◌%◌, Bool, false, cond, Some, None, Option, ◌==◌, nat_lt}
use Rattle.map.specs.declared.side.Side.{Side}
use Rattle.map.specs.Sides.{side_number, side_of, opposite}
use Rattle.map.specs.Layouts.{Layout}
use Rattle.orders.specs.declared.key.Pair.{Pair}
use Rattle.links.specs.Links.{near}
use Rattle.links.specs.Trees.{root_of, depth, parent_side, parent_of}

-- x itself where t is its parent, else on from its parent
abbrev pub climb : (ℕ → Option ℕ) → ℕ → ℕ → Option ℕ → Option ℕ
climb on t x None = None
climb on t x (Some p) = cond (p == t) (Some x) (on p)

-- climbing from x at most n times, the table whose parent is t: there is one where t is above x
unfoldable pub child_on : (ℕ → Option ℕ) → ℕ → ℕ → ℕ → Option ℕ
child_on parent zero t x = None
child_on parent (suc n) t x = climb (child_on parent n t) t x (parent x)

-- the side that leads back
abbrev pub reversed : Option Side → Option Side
reversed None = None
reversed (Some s) = Some (opposite s)

-- to the child on the line to the destination where there is one, else to the parent
abbrev pub towards : (ℕ → Option Side) → ℕ → Option ℕ → Option Side
towards side t None = side t
towards side t (Some x) = reversed (side x)

-- both are in a group, and it is one group
abbrev pub one_group : Option ℕ → Option ℕ → Bool
one_group None o = false
one_group (Some a) None = false
one_group (Some a) (Some b) = a == b

-- a way on that side, with the note 0
abbrev pub noted : Option Side → Option (Side × ℕ)
noted None = None
noted (Some s) = Some (s, 0)

-- the way over a tree with these roots, sides of parents and parents: none at the destination and to
-- another group; no table is deeper than 255
unfoldable pub way_over : (ℕ → Option ℕ) → (ℕ → Option Side) → (ℕ → Option ℕ) → ℕ → ℕ → Option (Side × ℕ)
way_over root side parent t d =
    cond (t == d) None (cond (one_group (root t) (root d)) (noted (towards side t (child_on parent 255 t d))) None)

-- the way over the tree of a map
unfoldable pub tree_way : Layout → ℕ → ℕ → Option (Side × ℕ)
tree_way m t d = way_over (root_of m) (parent_side m) (parent_of m) t d

-- a key of two numbers
abbrev pub pair : ℕ → ℕ → Pair ℕ ℕ
pair a b = record { first = a; second = b }

-- there is a side, and it is s
abbrev pub is_side : Option Side → Side → Bool
is_side None s = false
is_side (Some r) s = side_number r == side_number s

-- on side s, to a child of depth e: 1, e
abbrev pub key_down : (ℕ → ℕ) → (ℕ → Option Side) → Side → Option ℕ → Pair ℕ ℕ
key_down deep side s None = pair 2 0
key_down deep side s (Some u) = cond (is_side (side u) (opposite s)) (pair 1 (deep u)) (pair 2 0)

-- from table t on side s, to the parent from depth e: 0, 255 - e
abbrev pub key_at : (ℕ → Side → Option ℕ) → (ℕ → ℕ) → (ℕ → Option Side) → ℕ → Side → Pair ℕ ℕ
key_at beside deep side t s = cond (is_side (side t) s) (pair 0 (255 - deep t)) (key_down deep side s (beside t s))

-- the key of segment n over a tree with these neighbours, depths and sides of parents
unfoldable pub key_over : (ℕ → Side → Option ℕ) → (ℕ → ℕ) → (ℕ → Option Side) → ℕ → Pair ℕ ℕ
key_over beside deep side n = cond (nat_lt n 1024) (key_at beside deep side (n / 4) (side_of (n % 4))) (pair 2 0)

-- the keys over the tree of a map
unfoldable pub tree_key : Layout → ℕ → Pair ℕ ℕ
tree_key m n = key_over (near m) (depth m) (parent_side m) n
