-- Which tables and segments a floor of w columns and h rows has.
use Rattle.std.specs.Prelude.{ℕ, ◌+◌, ◌-◌, ◌/◌, ◌%◌, Bool, cond, ◌&&◌, Some, None, Option, nat_lt}
use Rattle.map.specs.declared.side.Side.{Side}
use Rattle.map.specs.declared.side.Side.TheVariants.{North, East, South, West}
use Rattle.map.specs.Sides.{side_of}

-- table number = 16 * row + column
abbrev pub column : ℕ → ℕ
column t = t % 16

abbrev pub row : ℕ → ℕ
row t = t / 16

abbrev pub on_floor : ℕ → ℕ → ℕ → Bool
on_floor w h t = nat_lt (column t) w && nat_lt (row t) h

-- from a table on the floor: rows count from the north, columns from the west
abbrev pub step_to : ℕ → ℕ → ℕ → Side → Option ℕ
step_to w h t North = cond (nat_lt 0 (row t)) (Some (t - 16)) None
step_to w h t East = cond (nat_lt (column t + 1) w) (Some (t + 1)) None
step_to w h t South = cond (nat_lt (row t + 1) h) (Some (t + 16)) None
step_to w h t West = cond (nat_lt 0 (column t)) (Some (t - 1)) None

-- the neighbour of t on side s, where both are on the floor
abbrev pub beside : ℕ → ℕ → ℕ → Side → Option ℕ
beside w h t s = cond (on_floor w h t) (step_to w h t s) None

-- the table that segment n leads to: there is one exactly where the segment exists
abbrev pub head_of : ℕ → ℕ → ℕ → Option ℕ
head_of w h n = cond (nat_lt n 1024) (beside w h (n / 4) (side_of (n % 4))) None
