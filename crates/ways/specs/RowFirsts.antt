-- Row-first: the way from table t to table d, and the key of segment n.
use Rattle.std.specs.Prelude.{ℕ, ◌-◌, ◌/◌, ◌%◌, cond, Some, None, Option, nat_lt}
use Rattle.map.specs.declared.side.Side.{Side}
use Rattle.map.specs.declared.side.Side.TheVariants.{North, East, South, West}
use Rattle.map.specs.Sides.{side_of}
use Rattle.map.specs.Floors.{column, row}
use Rattle.orders.specs.declared.key.Pair.{Pair}

-- first to the destination's column, then to its row; notes are 0
abbrev pub row_first_way : ℕ → ℕ → Option (Side × ℕ)
row_first_way t d =
    cond (nat_lt (column t) (column d)) (Some (East, 0))
    (cond (nat_lt (column d) (column t)) (Some (West, 0))
    (cond (nat_lt (row t) (row d)) (Some (South, 0))
    (cond (nat_lt (row d) (row t)) (Some (North, 0)) None)))

abbrev pub pair : ℕ → ℕ → Pair ℕ ℕ
pair a b = record { first = a; second = b }

-- by the side, and the column and row of the segment's table
abbrev pub row_first_key_at : Side → ℕ → ℕ → Pair ℕ ℕ
row_first_key_at East c r = pair 0 c
row_first_key_at West c r = pair 0 (15 - c)
row_first_key_at North c r = pair 1 (15 - r)
row_first_key_at South c r = pair 1 r

abbrev pub row_first_key : ℕ → Pair ℕ ℕ
row_first_key n = cond (nat_lt n 1024) (row_first_key_at (side_of (n % 4)) (column (n / 4)) (row (n / 4))) (pair 2 0)
