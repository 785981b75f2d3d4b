-- The ways and keys of a file that was read.
use Rattle.std.specs.Prelude.{ℕ, zero, suc, ◌+◌, ◌*◌, ◌/◌, ◌%◌, cond, List, Some, None, Option, ◌==◌, nat_lt, slice_index}
use Rattle.map.specs.declared.side.Side.{Side}
use Rattle.map.specs.Sides.{side_of}

-- the stop at a place of the head's list
abbrev pub stop_at : List ℕ → ℕ → ℕ
stop_at file i = slice_index file (8 + i)

abbrev pub stop_in : List ℕ → ℕ → Option ℕ
stop_in file i = cond (nat_lt i (slice_index file 6)) (Some (stop_at file i)) None

-- the place of a table among m stops from place i on
unfoldable pub seek : List ℕ → ℕ → ℕ → ℕ → Option ℕ
seek file table zero i = None
seek file table (suc m) i = cond (stop_at file i == table) (Some i) (seek file table m (i + 1))

-- the place of a table among the stops of the file
abbrev pub place_of : List ℕ → ℕ → Option ℕ
place_of file table = seek file table (slice_index file 6) 0

-- a half of a byte: the high one for even tables
abbrev pub half_of : ℕ → ℕ → ℕ
half_of table byte = cond (table % 2 == 0) (byte / 16) (byte % 16)

-- the entry for a table, in the block of the ways to the stop at place i
abbrev pub entry_at : List ℕ → ℕ → ℕ → ℕ
entry_at file i table = half_of table (slice_index file (512 * (i + 1) + 8 + table / 2))

-- an entry below 4 is a side; notes are 0
abbrev pub entry_way : ℕ → Option (Side × ℕ)
entry_way entry = cond (nat_lt entry 4) (Some (side_of entry, 0)) None

abbrev pub way_to : List ℕ → ℕ → Option ℕ → Option (Side × ℕ)
way_to file table None = None
way_to file table (Some i) = entry_way (entry_at file i table)

-- the way is the entry; to a table that is not a stop of the file there is none
abbrev pub way_in : List ℕ → ℕ → ℕ → Option (Side × ℕ)
way_in file table destination = way_to file table (place_of file destination)

-- where the key of a segment stands, 128 to a block behind the ways
abbrev pub key_place : List ℕ → ℕ → ℕ
key_place file segment = 512 * (slice_index file 6 + 1 + segment / 128) + 8 + 2 * (segment % 128)

abbrev pub key_in : List ℕ → ℕ → ℕ
key_in file segment =
    cond (nat_lt segment 1024) (slice_index file (key_place file segment) * 256 + slice_index file (key_place file segment + 1)) 0
