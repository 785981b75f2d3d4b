-- The rules that every map keeps.
use Rattle.std.specs.Prelude.{◌≡◌, ℕ, ◌≤◌, true, is_some}
use Rattle.map.specs.Layouts.{Layout, on_map, head_in, table_closed, segment_closed, is_stop, stop_count}

pub record Lawful (m : Layout) : Type 0 where
  pub wide : (1 ≤ m.width) × (m.width ≤ 16)
  pub high : (1 ≤ m.height) × (m.height ≤ 16)
  pub tables_there : (t : ℕ) → table_closed m t ≡ true → on_map m t ≡ true
  pub segments_there : (n : ℕ) → segment_closed m n ≡ true → is_some (head_in m n) ≡ true
  pub stops_there : (t : ℕ) → is_stop m t ≡ true → on_map m t ≡ true
  pub few : stop_count m ≤ 64
