-- The sides of a table by number, and the segments by table and side.
use Rattle.std.specs.Prelude.{ℕ, ◌+◌, ◌*◌, cond, Ok, Err, Result, ◌==◌, nat_lt}
use Rattle.map.specs.declared.side.Side.{Side}
use Rattle.map.specs.declared.side.NoSide.{NoSide}
use Rattle.map.specs.declared.side.Side.TheVariants.{North, East, South, West}

abbrev pub side_number : Side → ℕ
side_number North = 0
side_number East = 1
side_number South = 2
side_number West = 3

-- the side of a number below 4
abbrev pub side_of : ℕ → Side
side_of n = cond (n == 0) North (cond (n == 1) East (cond (n == 2) South West))

-- the side that has a number, where one has it
abbrev pub side_outcome : ℕ → Result Side NoSide
side_outcome n = cond (nat_lt n 4) (Ok (side_of n)) (Err (record {}))

abbrev pub opposite : Side → Side
opposite North = South
opposite East = West
opposite South = North
opposite West = East

-- the number of the segment that leaves table t on side s
abbrev pub segment : ℕ → Side → ℕ
segment t s = 4 * t + side_number s
