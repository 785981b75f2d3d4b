-- What each change of a map answers, and the map that it leaves.
use Rattle.std.specs.Prelude.{ℕ, Bool, true, false, cond, ◌&&◌, replicate, is_some, Ok, Err, Result, nat_lt, slice_set}
use Rattle.map.specs.declared.map.Map.{Map}
use Rattle.map.specs.declared.refusal.Refusal.{Refusal}
use Rattle.map.specs.declared.refusal.Refusal.TheVariants.{BadSize, NoTable, NoSegment, TooManyStops}
use Rattle.map.specs.Sizes.{fits_size}
use Rattle.map.specs.Counts.{how_many}
use Rattle.map.specs.Layouts.{Layout, layout, on_map, head_in}

-- a change that is accepted gives the later map, and the caller is told so
abbrev pub told : Result Layout Refusal → Result (Unit {0}) Refusal
told (Ok q) = Ok tt
told (Err e) = Err e

-- a refusal leaves the map as it was
abbrev pub after : Layout → Result Layout Refusal → Layout
after m (Ok q) = q
after m (Err e) = m

abbrev pub made : Result Map Refusal → Result Layout Refusal
made (Ok m) = Ok (layout m)
made (Err e) = Err e

-- no stops, and nothing closed
abbrev pub bare_map : ℕ → ℕ → Layout
bare_map w h = record { width = w; height = h; closed_tables = replicate 256 false; closed_segments = replicate 1024 false; stops = replicate 256 false }

abbrev pub new_map : ℕ → ℕ → Result Layout Refusal
new_map w h = cond (fits_size w && fits_size h) (Ok (bare_map w h)) (Err BadSize)

abbrev pub set_table : Bool → Layout → ℕ → Layout
set_table b m t = record { width = m.width; height = m.height; closed_tables = slice_set m.closed_tables t b; closed_segments = m.closed_segments; stops = m.stops }

abbrev pub set_segment : Bool → Layout → ℕ → Layout
set_segment b m n = record { width = m.width; height = m.height; closed_tables = m.closed_tables; closed_segments = slice_set m.closed_segments n b; stops = m.stops }

abbrev pub set_stop : Bool → Layout → ℕ → Layout
set_stop b m t = record { width = m.width; height = m.height; closed_tables = m.closed_tables; closed_segments = m.closed_segments; stops = slice_set m.stops t b }

-- closing (b is true) or reopening (b is false) a table, and a segment
abbrev pub table_change : Bool → Layout → ℕ → Result Layout Refusal
table_change b m t = cond (on_map m t) (Ok (set_table b m t)) (Err NoTable)

abbrev pub segment_change : Bool → Layout → ℕ → Result Layout Refusal
segment_change b m n = cond (is_some (head_in m n)) (Ok (set_segment b m n)) (Err NoSegment)

abbrev pub close_table : Layout → ℕ → Result Layout Refusal
close_table = table_change true

abbrev pub reopen_table : Layout → ℕ → Result Layout Refusal
reopen_table = table_change false

abbrev pub close_segment : Layout → ℕ → Result Layout Refusal
close_segment = segment_change true

abbrev pub reopen_segment : Layout → ℕ → Result Layout Refusal
reopen_segment = segment_change false

-- how many tables other than t are stops
abbrev pub other_stops : Layout → ℕ → ℕ
other_stops m t = how_many (slice_set m.stops t false)

abbrev pub mark_stop : Layout → ℕ → Result Layout Refusal
mark_stop m t = cond (on_map m t) (cond (nat_lt (other_stops m t) 64) (Ok (set_stop true m t)) (Err TooManyStops)) (Err NoTable)

abbrev pub unmark_stop : Layout → ℕ → Result Layout Refusal
unmark_stop m t = cond (on_map m t) (Ok (set_stop false m t)) (Err NoTable)
