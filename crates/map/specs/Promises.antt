-- What a change of a map comes to: one thing stands as called for, and all else is as before.
use Rattle.std.specs.Prelude.{◌≡◌, ℕ, Bool, false, Ok, Err, Result, ◌≢◌}
use Rattle.map.specs.declared.map.Map.{Map}
use Rattle.map.specs.declared.refusal.Refusal.{Refusal}
use Rattle.map.specs.Layouts.{Layout, layout, table_closed, segment_closed, is_stop}

-- m and q are floors of one size
pub record SameSize (m q : Layout) : Type 0 where
  pub width : q.width ≡ m.width
  pub height : q.height ≡ m.height

abbrev pub SameTables : Layout → Layout → Type 0
SameTables m q = (t : ℕ) → table_closed q t ≡ table_closed m t

abbrev pub SameSegments : Layout → Layout → Type 0
SameSegments m q = (n : ℕ) → segment_closed q n ≡ segment_closed m n

abbrev pub SameStops : Layout → Layout → Type 0
SameStops m q = (t : ℕ) → is_stop q t ≡ is_stop m t

-- from m to q only table t was closed (b is true) or reopened (b is false)
pub record TableSet (b : Bool) (t : ℕ) (m q : Layout) : Type 0 where
  pub this : table_closed q t ≡ b
  pub others : (u : ℕ) → (u ≢ t) → table_closed q u ≡ table_closed m u
  pub segments : SameSegments m q
  pub stops : SameStops m q
  pub size : SameSize m q

-- from m to q only segment n was closed or reopened
pub record SegmentSet (b : Bool) (n : ℕ) (m q : Layout) : Type 0 where
  pub this : segment_closed q n ≡ b
  pub others : (k : ℕ) → (k ≢ n) → segment_closed q k ≡ segment_closed m k
  pub tables : SameTables m q
  pub stops : SameStops m q
  pub size : SameSize m q

-- from m to q only table t was marked as a stop or unmarked
pub record StopSet (b : Bool) (t : ℕ) (m q : Layout) : Type 0 where
  pub this : is_stop q t ≡ b
  pub others : (u : ℕ) → (u ≢ t) → is_stop q u ≡ is_stop m u
  pub tables : SameTables m q
  pub segments : SameSegments m q
  pub size : SameSize m q

-- an accepted call makes its change, and a refused one none
abbrev pub Changed : Result (Unit {0}) Refusal → (Layout → Layout → Type 0) → Layout → Layout → Type 0
Changed (Ok x) Change m q = Change m q
Changed (Err e) Change m q = q ≡ m

-- of this size, with no stops and nothing closed
pub record Bare (w h : ℕ) (q : Layout) : Type 0 where
  pub width : q.width ≡ w
  pub height : q.height ≡ h
  pub tables : (t : ℕ) → table_closed q t ≡ false
  pub segments : (n : ℕ) → segment_closed q n ≡ false
  pub stops : (t : ℕ) → is_stop q t ≡ false

abbrev pub Made : Result Map Refusal → (Layout → Type 0) → Type 0
Made (Ok m) Fresh = Fresh (layout m)
Made (Err e) Fresh = Unit {0}
