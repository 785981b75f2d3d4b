-- What a map holds, and what it answers.
use Rattle.std.specs.Prelude.{ℕ, ◌/◌, Bool, false, not, ◌&&◌, List, Some, None, Option, slice_index_or}
use Rattle.map.specs.declared.side.Side.{Side}
use Rattle.map.specs.declared.map.Map.{Map}
use Rattle.map.specs.Sides.{opposite, segment}
use Rattle.map.specs.Floors.{on_floor, beside, head_of}
use Rattle.map.specs.Counts.{how_many}

-- a map as plain data: its size, and a flag for each closed table, closed segment and stop
pub record Layout : Type 0 where
  pub width : ℕ
  pub height : ℕ
  pub closed_tables : List Bool
  pub closed_segments : List Bool
  pub stops : List Bool

abbrev pub layout : Map → Layout
layout m = record { width = m.size.width; height = m.size.height; closed_tables = m.tables; closed_segments = m.segments; stops = m.stops }

abbrev pub on_map : Layout → ℕ → Bool
on_map m t = on_floor m.width m.height t

abbrev pub beside_in : Layout → ℕ → Side → Option ℕ
beside_in m t s = beside m.width m.height t s

abbrev pub head_in : Layout → ℕ → Option ℕ
head_in m n = head_of m.width m.height n

abbrev pub table_closed : Layout → ℕ → Bool
table_closed m t = slice_index_or m.closed_tables t false

abbrev pub segment_closed : Layout → ℕ → Bool
segment_closed m n = slice_index_or m.closed_segments n false

abbrev pub is_stop : Layout → ℕ → Bool
is_stop m t = slice_index_or m.stops t false

abbrev pub stop_count : Layout → ℕ
stop_count m = how_many m.stops

-- a segment is open where it exists, is not closed, and neither end table is closed
abbrev pub open_to : Layout → ℕ → Option ℕ → Bool
open_to m n None = false
open_to m n (Some head) = not (segment_closed m n) && (not (table_closed m (n / 4)) && not (table_closed m head))

abbrev pub open_in : Layout → ℕ → Bool
open_in m n = open_to m n (head_in m n)

-- a link is open where both its segments are
abbrev pub link_to : Layout → ℕ → Side → Option ℕ → Bool
link_to m t s None = false
link_to m t s (Some u) = open_in m (segment t s) && open_in m (segment u (opposite s))

abbrev pub link_open : Layout → ℕ → Side → Bool
link_open m t s = link_to m t s (beside_in m t s)
