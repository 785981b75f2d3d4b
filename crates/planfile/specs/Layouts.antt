-- What the bytes of a block may be. A body is what follows a block's first four bytes; places count from the block's start.
use Rattle.std.specs.Prelude.{ℕ, zero, suc, ◌+◌, ◌-◌, ◌*◌, ◌/◌, ◌%◌, Bool, true, cond, not, ◌&&◌, ◌||◌, List, is_some, ◌==◌, nat_le, nat_lt, slice_index}
use Rattle.map.specs.Floors.{on_floor, head_of}
use Rattle.planfile.specs.declared.block.Head.{Head}
use Rattle.planfile.specs.declared.block.Content.{Content}
use Rattle.planfile.specs.declared.block.Content.TheVariants.{Stops, Ways, Keys}

-- the byte of a body that stands at a place of its block
abbrev pub in_body : List ℕ → ℕ → ℕ
in_body body place = slice_index body (place - 4)

-- a width or a height
abbrev pub size_fits : ℕ → Bool
size_fits n = nat_le 1 n && nat_le n 16

-- a stop is on the floor and, but for the first, above the one before
abbrev pub stop_fits : Head → List ℕ → ℕ → Bool
stop_fits head body place =
    on_floor head.width head.height (in_body body place)
    && (place == 8 || nat_lt (in_body body (place - 1)) (in_body body place))

-- the head: width, height and number of stops at 4, 5 and 6, the stops from 8 on, and zeros
abbrev pub head_byte_fits : Head → List ℕ → ℕ → Bool
head_byte_fits head body place =
    cond (nat_lt place 6) (size_fits (in_body body place))
    (cond (nat_lt place 7) (nat_le (in_body body place) 64)
    (cond (nat_lt place 8) (in_body body place == 0)
    (cond (nat_lt place (8 + head.count)) (stop_fits head body place) (in_body body place == 0))))

-- an entry is 15 for no way, or a side, which a table off the floor and the stop itself never have
abbrev pub entry_fits : Head → ℕ → ℕ → ℕ → Bool
entry_fits head stop table entry =
    (entry == 15) || (nat_lt entry 4 && (on_floor head.width head.height table && not (table == stop)))

-- the ways to a stop: the stop at 4, from 8 to 135 two tables to a byte, the even one in the high half, and zeros
abbrev pub way_byte_fits : Head → ℕ → ℕ → ℕ → Bool
way_byte_fits head stop place byte =
    cond (nat_lt place 5) (byte == stop)
    (cond (nat_lt place 8) (byte == 0)
    (cond (nat_lt place 136)
    (entry_fits head stop (2 * (place - 8)) (byte / 16) && entry_fits head stop (2 * (place - 8) + 1) (byte % 16))
    (byte == 0)))

-- a segment exists where it leads to a table
abbrev pub is_there : Head → ℕ → Bool
is_there head segment = is_some (head_of head.width head.height segment)

-- the keys of 128 segments: the part's number at 4, from 8 to 263 two bytes to a key, zeros for missing segments, and zeros
abbrev pub key_byte_fits : Head → ℕ → ℕ → ℕ → Bool
key_byte_fits head part place byte =
    cond (nat_lt place 5) (byte == part)
    (cond (nat_lt place 8) (byte == 0)
    (cond (nat_lt place 264) (byte == 0 || is_there head (128 * part + (place - 8) / 2)) (byte == 0)))

-- what the byte at a place from 4 to 507 may be, by what the block is to hold
abbrev pub byte_fits : Head → Content → List ℕ → ℕ → Bool
byte_fits head Stops body place = head_byte_fits head body place
byte_fits head (Ways stop) body place = way_byte_fits head stop place (in_body body place)
byte_fits head (Keys part) body place = key_byte_fits head part place (in_body body place)

-- a test holds at m places from p on
unfoldable pub all_from : (ℕ → Bool) → ℕ → ℕ → Bool
all_from test zero p = true
all_from test (suc m) p = test p && all_from test m (p + 1)

abbrev pub body_fits : Head → Content → List ℕ → Bool
body_fits head content body = all_from (byte_fits head content body) 504 4
