-- The file that is written for a floor, its stops, a way-finder and keys.
use Rattle.std.specs.Prelude.{ℕ, zero, suc, ◌+◌, ◌-◌, ◌*◌, ◌/◌, ◌%◌, cond, not, ◌&&◌, List, [], ◌++◌, map, length, Some, None, Ok, Err, Option, Result, ◌==◌, nat_le, nat_lt, slice_index}
use Rattle.std.specs.List.{range_with_len}
use Rattle.map.specs.declared.side.Side.{Side}
use Rattle.map.specs.Sides.{side_number}
use Rattle.map.specs.Floors.{on_floor}
use Rattle.map.specs.Layouts.{Layout}
use Rattle.blocks.specs.Words.{closed}
use Rattle.planfile.specs.declared.block.Head.{Head}
use Rattle.planfile.specs.declared.block.Content.{Content}
use Rattle.planfile.specs.declared.block.Content.TheVariants.{Stops, Ways, Keys}
use Rattle.planfile.specs.declared.refusal.Refusal.{Refusal}
use Rattle.planfile.specs.declared.refusal.Refusal.TheVariants.{ShortBuffer, WrongKeys}
use Rattle.planfile.specs.Layouts.{is_there}
use Rattle.planfile.specs.Outcomes.{kind_of}
use Rattle.planwriter.specs.Stops.{stops_of}

-- what is written: the floor's size, the stops, the entry of each table for each stop, and the key of each segment
pub record Source : Type 0 where
  pub head : Head
  pub stops : List ℕ
  pub entry : ℕ → ℕ → ℕ
  pub key : ℕ → ℕ

-- a side by its number, and 15 for no way
abbrev pub entry_number : Option (Side × ℕ) → ℕ
entry_number None = 15
entry_number (Some a) = side_number a.0

-- the way under the way-finder's own first note from the table; none off the floor and at the stop itself
abbrev pub entry_for : Head → (ℕ → ℕ → ℕ) → (ℕ → ℕ → ℕ → Option (Side × ℕ)) → ℕ → ℕ → ℕ
entry_for head first way stop table =
    cond (on_floor head.width head.height table && not (table == stop)) (entry_number (way table stop (first table stop))) 15

-- the key of a segment, and 0 where the segment is missing
abbrev pub key_for : Head → List ℕ → ℕ → ℕ
key_for head keys segment = cond (is_there head segment) (slice_index keys segment) 0

abbrev pub head_for : Layout → Head
head_for layout = record { width = layout.width; height = layout.height; count = length (stops_of layout) }

abbrev pub source_of : Layout → (ℕ → ℕ → ℕ) → (ℕ → ℕ → ℕ → Option (Side × ℕ)) → List ℕ → Source
source_of layout first way keys =
    record { head = head_for layout; stops = stops_of layout; entry = entry_for (head_for layout) first way; key = key_for (head_for layout) keys }

-- the head: width, height and number of stops at 4, 5 and 6, the stops from 8 on, and zeros
abbrev pub head_byte : Head → List ℕ → ℕ → ℕ
head_byte head stops place =
    cond (nat_lt place 5) head.width
    (cond (nat_lt place 6) head.height
    (cond (nat_lt place 7) head.count (cond (nat_lt place 8) 0 (slice_index stops (place - 8)))))

-- the ways to a stop: the stop at 4, from 8 to 135 two tables to a byte, the even one in the high half, and zeros
abbrev pub way_byte : (ℕ → ℕ → ℕ) → ℕ → ℕ → ℕ
way_byte entry stop place =
    cond (nat_lt place 5) stop
    (cond (nat_lt place 8) 0
    (cond (nat_lt place 136) (entry stop (2 * (place - 8)) * 16 + entry stop (2 * (place - 8) + 1)) 0))

-- a 16-bit number is written high byte first
abbrev pub key_half : ℕ → ℕ → ℕ
key_half place key = cond (place % 2 == 0) (key / 256 % 256) (key % 256)

-- the keys of 128 segments: the part's number at 4, from 8 to 263 two bytes to a key, and zeros
abbrev pub key_byte : (ℕ → ℕ) → ℕ → ℕ → ℕ
key_byte key part place =
    cond (nat_lt place 5) part
    (cond (nat_lt place 8) 0 (cond (nat_lt place 264) (key_half place (key (128 * part + (place - 8) / 2))) 0))

abbrev pub content_byte : Source → Content → ℕ → ℕ
content_byte source Stops place = head_byte source.head source.stops place
content_byte source (Ways stop) place = way_byte source.entry stop place
content_byte source (Keys part) place = key_byte source.key part place

-- the kind, the number and two zeros, and then the content
abbrev pub block_byte : Source → Content → ℕ → ℕ → ℕ
block_byte source content number place =
    cond (nat_lt place 1) (kind_of content)
    (cond (nat_lt place 2) number (cond (nat_lt place 4) 0 (content_byte source content place)))

-- 508 bytes, and the word that sees to the sum
unfoldable pub block_of : Source → Content → ℕ → List ℕ
block_of source content number = closed (map (block_byte source content number) (range_with_len 0 508))

-- what block k holds: the head, then the ways to each stop, then the keys
abbrev pub content_of : List ℕ → ℕ → Content
content_of stops k =
    cond (k == 0) Stops (cond (nat_le k (length stops)) (Ways (slice_index stops (k - 1))) (Keys (k - (length stops + 1))))

-- m blocks from block k on
unfoldable pub blocks_from : Source → ℕ → ℕ → List ℕ
blocks_from source zero k = []
blocks_from source (suc m) k = block_of source (content_of source.stops k) k ++ blocks_from source m (k + 1)

abbrev pub file_of : Source → List ℕ
file_of source = blocks_from source (length source.stops + 9) 0

-- 1,024 keys, and then a buffer that is long enough
abbrev pub write_outcome : ℕ → ℕ → ℕ → Result ℕ Refusal
write_outcome keys buffer stops =
    cond (keys == 1024) (cond (nat_le (512 * (stops + 9)) buffer) (Ok (512 * (stops + 9))) (Err ShortBuffer)) (Err WrongKeys)
