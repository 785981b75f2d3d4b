-- Parents, ways and keys in the words of chains of links alone.
use Rattle.std.specs.Prelude.{◌≡◌, ℕ, suc, ◌-◌, ◌<◌, ◌≤◌, Some, Option, ◌≢◌}
use Rattle.map.specs.declared.side.Side.{Side}
use Rattle.map.specs.Sides.{side_number, opposite, segment}
use Rattle.map.specs.Layouts.{Layout}
use Rattle.links.specs.Links.{near}
use Rattle.links.specs.Groups.{Joined, RootOf, DepthOf}
use Rattle.links.specs.Ways.{pair, tree_way, tree_key}

-- u, on side s of t, is the first neighbour over a link, in side order, whose depth is one less
pub record ParentOf (near : ℕ → Side → Option ℕ) (t : ℕ) (s : Side) (u : ℕ) : Type 0 where
  pub root : ℕ
  pub depth : ℕ
  pub is_root : RootOf near t root
  pub is_depth : DepthOf near root t (suc depth)
  pub over : near t s ≡ Some u
  pub one_less : DepthOf near root u depth
  pub first : (r : Side) (v : ℕ) → side_number r < side_number s → near t r ≡ Some v → DepthOf near root v depth → ⊥

-- x is d, or above it in the tree
pub data LineOf (near : ℕ → Side → Option ℕ) (d : ℕ) : ℕ → Type 0 where
  itself : LineOf near d d
  upper : {x y : ℕ} (s : Side) → LineOf near d x → ParentOf near x s y → LineOf near d y

-- the way from t to d is on that side: to the child on the line where t is above d, elsewhere to the parent
pub data WayOf (near : ℕ → Side → Option ℕ) (t d : ℕ) : Side → Type 0 where
  to_child : {x : ℕ} (s : Side) → LineOf near d x → ParentOf near x s t → WayOf near t d (opposite s)
  to_parent : {u : ℕ} (s : Side) → Joined near t d → (LineOf near d t → ⊥) → ParentOf near t s u → WayOf near t d s

-- the ways of the tree are these, and the notes are 0
pub record WaysMeant (m : Layout) : Type 0 where
  pub only : (t d n : ℕ) (s : Side) → tree_way m t d ≡ Some (s, n) → WayOf (near m) t d s × (n ≡ 0)
  pub each : (t d : ℕ) (s : Side) → WayOf (near m) t d s → tree_way m t d ≡ Some (s, 0)

-- a segment to a parent from depth e has 0, 255 - e; one to a child of depth e has 1, e; any other has 2, 0
pub record KeysMeant (m : Layout) : Type 0 where
  pub up : (t u : ℕ) (s : Side) → (p : ParentOf (near m) t s u) → tree_key m (segment t s) ≡ pair 0 (255 - suc p.depth)
  pub down : (t u : ℕ) (s : Side) → (p : ParentOf (near m) t s u) → tree_key m (segment u (opposite s)) ≡ pair 1 (suc p.depth)
  pub other : (t : ℕ) (s : Side) → t < 256 → ((u : ℕ) → ParentOf (near m) t s u → ⊥) → ((x : ℕ) (r : Side) → ParentOf (near m) x r t → opposite r ≢ s) → tree_key m (segment t s) ≡ pair 2 0
  pub none : (n : ℕ) → 1024 ≤ n → tree_key m n ≡ pair 2 0
