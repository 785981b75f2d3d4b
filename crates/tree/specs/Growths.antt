-- The tables of a map reached so far by spreading from root after root, each group breadth-first.
use Rattle.std.specs.Prelude.{◌≡◌, ℕ, ◌+◌, ◌<◌, ◌≤◌, true, cond, List, [], ◌∷◌, ◌++◌, length, is_some, Some, None, Option, slice_index, slice_index_or, slice_set}
use Rattle.map.specs.declared.side.Side.{Side}
use Rattle.map.specs.Layouts.{Layout}
use Rattle.links.specs.Links.{near, present}
use Rattle.links.specs.Groups.{Chain, RootOf}
use Rattle.tree.specs.declared.growth.Growth.{Growth}
use Rattle.tree.specs.declared.growth.Mark.{Mark}

-- the root in a mark, and the depth: 0 where there is no mark
abbrev pub marked_root : Option Mark → Option ℕ
marked_root None = None
marked_root (Some x) = Some x.root

abbrev pub marked_depth : Option Mark → ℕ
marked_depth None = 0
marked_depth (Some x) = x.depth

-- the root of a table that was reached
abbrev pub root_in : Growth → ℕ → Option ℕ
root_in g t = marked_root (slice_index_or g.marks t None)

-- its depth
abbrev pub depth_in : Growth → ℕ → ℕ
depth_in g t = marked_depth (slice_index_or g.marks t None)

-- the table at that place of the queue
abbrev pub placed : Growth → ℕ → ℕ
placed g i = slice_index g.queue.items i

-- how many there are
abbrev pub count : Growth → ℕ
count g = length g.queue.items

-- how many tables have no root yet
abbrev pub missing : List (Option Mark) → ℕ
missing [] = 0
missing (x ∷ xs) = cond (is_some x) 0 1 + missing xs

-- t joins at the end of the queue
abbrev pub reached : Growth → ℕ → ℕ → ℕ → Growth
reached g t r e = record { marks = slice_set g.marks t (Some (record { root = r; depth = e })); queue = record { items = g.queue.items ++ t ∷ [] } }

-- t was reached from r: the lowest table of its group, which was reached itself
pub record From (m : Layout) (g : Growth) (t r : ℕ) : Type 0 where
  pub there : present m t ≡ true
  pub lowest : RootOf (near m) r r
  pub chain : Chain (near m) r t (depth_in g t)
  pub own : root_in g r ≡ Some r
  pub none : depth_in g r ≡ 0

-- what always holds, where so many tables were taken from the queue
pub record Sound (m : Layout) (taken : ℕ) (g : Growth) : Type 0 where
  pub marks_long : length g.marks ≡ 256
  pub counted : count g + missing g.marks ≡ 256
  pub taken_few : taken ≤ count g
  -- the queue has the tables that were reached
  pub small : (i : ℕ) → i < count g → placed g i < 256
  pub shallow : (i : ℕ) → i < count g → depth_in g (placed g i) ≤ i
  pub known : (i : ℕ) → i < count g → (r : ℕ) × (root_in g (placed g i) ≡ Some r)
  pub queued : (t r : ℕ) → root_in g t ≡ Some r → (i : ℕ) × (i < count g) × (placed g i ≡ t)
  pub from : (t r : ℕ) → root_in g t ≡ Some r → From m g t r
  pub unknown : (t : ℕ) → root_in g t ≡ None → depth_in g t ≡ 0
  -- the neighbours of a table that was taken are reached, and not much deeper
  pub around : (i u : ℕ) (s : Side) → i < taken → near m (placed g i) s ≡ Some u → (root_in g u ≡ root_in g (placed g i)) × (depth_in g u ≤ depth_in g (placed g i) + 1)

-- spreading from r, with the table at this place of the queue taken next: the tables from there on are of this
-- group, their depths never fall, and no table of it is deeper than that one by more than one
pub record Spreading (m : Layout) (r place : ℕ) (g : Growth) : Type 0 where
  pub sound : Sound m place g
  pub own : (i : ℕ) → place ≤ i → i < count g → root_in g (placed g i) ≡ Some r
  pub sorted : (i j : ℕ) → place ≤ i → i ≤ j → j < count g → depth_in g (placed g i) ≤ depth_in g (placed g j)
  pub level : (u : ℕ) → place < count g → root_in g u ≡ Some r → depth_in g u ≤ depth_in g (placed g place) + 1

-- the neighbour on that side is reached
abbrev pub Seen : Layout → ℕ → ℕ → Side → Growth → Type 0
Seen m r place s g = (u : ℕ) → near m (placed g place) s ≡ Some u → (root_in g u ≡ Some r) × (depth_in g u ≤ depth_in g (placed g place) + 1)

-- what was reached stays
pub record Kept (old new : Growth) : Type 0 where
  pub roots : (t r : ℕ) → root_in old t ≡ Some r → root_in new t ≡ Some r
  pub depths : (t r : ℕ) → root_in old t ≡ Some r → depth_in new t ≡ depth_in old t
  pub places : (i : ℕ) → i < count old → placed new i ≡ placed old i
  pub more : count old ≤ count new

-- the groups of the tables below i are reached
pub record Swept (m : Layout) (i : ℕ) (g : Growth) : Type 0 where
  pub sound : Sound m (count g) g
  pub done : (x : ℕ) → x < i → present m x ≡ true → (r : ℕ) × (root_in g x ≡ Some r)
