-- What a written file gives back, and when a file is written again as it was.
use Rattle.std.specs.Prelude.{◌≡◌, ℕ, ◌<◌, List, map, length, take, drop, Option, slice_index, slice_index_or}
use Rattle.std.specs.List.{range_with_len}
use Rattle.map.specs.declared.side.Side.{Side}
use Rattle.map.specs.Layouts.{Layout}
use Rattle.blocks.specs.Changes.{AllBytes}
use Rattle.planfile.specs.Promises.{PlanFile}
use Rattle.planfile.specs.Plans.{stop_at, entry_way, way_in, key_in}
use Rattle.planwriter.specs.Stops.{stops_of}
use Rattle.planwriter.specs.Files.{Source, file_of, source_of}

-- read again, the file has the size and the stops, each entry is the way to its stop, and each segment has its key
pub record ReadBack (source : Source) (file : List ℕ) : Type 0 where
  pub width : slice_index_or file 4 0 ≡ source.head.width
  pub height : slice_index_or file 5 0 ≡ source.head.height
  pub count : slice_index_or file 6 0 ≡ length source.stops
  pub stops : (i : ℕ) → i < length source.stops → stop_at file i ≡ slice_index source.stops i
  pub ways : (i t : ℕ) → i < length source.stops → t < 256 → way_in file t (slice_index source.stops i) ≡ entry_way (source.entry (slice_index source.stops i) t)
  pub keys : (s : ℕ) → s < 1024 → key_in file s ≡ source.key s

-- the stops of a file, in its order
abbrev pub stops_in : List ℕ → List ℕ
stops_in file = take (slice_index file 6) (drop 8 file)

-- a map has the size and the stops of a file, a way-finder its ways, and a list its keys
pub record SamePlan (layout : Layout) (way : ℕ → ℕ → ℕ → Option (Side × ℕ)) (keys file : List ℕ) : Type 0 where
  pub width : layout.width ≡ slice_index file 4
  pub height : layout.height ≡ slice_index file 5
  pub stops : stops_of layout ≡ stops_in file
  pub ways : (t d note : ℕ) → way t d note ≡ way_in file t d
  pub each_key : (s : ℕ) → s < 1024 → slice_index keys s ≡ key_in file s

-- a file of the layout whose plan this is, on a map of its size and stops, is written again byte for byte
abbrev pub WrittenAgain : Layout → (ℕ → ℕ → ℕ) → (ℕ → ℕ → ℕ → Option (Side × ℕ)) → List ℕ → Type 0
WrittenAgain layout first way keys =
    (file : List ℕ) → AllBytes file → PlanFile file → SamePlan layout way keys file → file_of (source_of layout first way keys) ≡ file

-- the keys of a file, by segment
unfoldable pub keys_in : List ℕ → List ℕ
keys_in file = map (key_in file) (range_with_len 0 1024)

-- a map has the size and the stops of a file
pub record SameFloor (layout : Layout) (file : List ℕ) : Type 0 where
  pub width : layout.width ≡ slice_index file 4
  pub height : layout.height ≡ slice_index file 5
  pub stops : stops_of layout ≡ stops_in file
