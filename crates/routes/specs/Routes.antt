-- What a route is, and what it is for a step to be the first that fails.
use Rattle.std.specs.Prelude.{◌≡◌, ℕ, zero, suc, ◌<◌, ◌≤◌, true, false, List, [], ◌∷◌, length, Some, None, Ok, Err, Option, Result, ◌≢◌}
use Rattle.map.specs.declared.side.Side.{Side}
use Rattle.map.specs.Sides.{segment}
use Rattle.map.specs.Layouts.{head_in, open_in}
use Rattle.routes.specs.declared.refusal.Reason.{Reason}
use Rattle.routes.specs.declared.refusal.Reason.TheVariants.{NoWay, NoSegment, Closed, NotRising}
use Rattle.routes.specs.declared.refusal.Refusal.{Refusal}
use Rattle.routes.specs.Routings.{Routing, follows}
use Rattle.routes.specs.Steps.{refused}

-- len segments lead from table t, carrying note n, to table d: place by place, the table, the note
-- carried there and the side on which it is left
pub record Course (s : Routing) (d t n len : ℕ) : Type 0 where
  pub table : ℕ → ℕ
  pub note : ℕ → ℕ
  pub side : ℕ → Side
  pub starts : table 0 ≡ t
  pub noted : note 0 ≡ n
  pub some : 0 < len
  pub asks : (k : ℕ) → k < len → s.way (table k) d (note k) ≡ Some (side k, note (suc k))
  pub leads : (k : ℕ) → k < len → head_in s.map (segment (table k) (side k)) ≡ Some (table (suc k))
  pub opens : (k : ℕ) → k < len → open_in s.map (segment (table k) (side k)) ≡ true
  pub rise : (k : ℕ) → suc k < len → s.rises (segment (table k) (side k)) (segment (table (suc k)) (side (suc k))) ≡ true
  pub ends : table len ≡ d
  pub not_sooner : (k : ℕ) → 0 < k → k < len → table k ≢ d

-- the segments of so many places, from place k on
abbrev pub segments_from : (ℕ → ℕ) → (ℕ → Side) → ℕ → ℕ → List ℕ
segments_from table side k zero = []
segments_from table side k (suc j) = segment (table k) (side k) ∷ segments_from table side (suc k) j

-- qs are the segments of the route from o to d: it starts at o with the first note, and arrives over
-- open segments with rising keys
pub record Route (s : Routing) (o d : ℕ) (qs : List ℕ) : Type 0 where
  pub len : ℕ
  pub course : Course s d o (s.first o d) len
  pub is : qs ≡ segments_from course.table course.side 0 len

-- len segments can be taken from table t, carrying note n, and none of them leads to d
pub record Stretch (s : Routing) (d t n len : ℕ) : Type 0 where
  pub table : ℕ → ℕ
  pub note : ℕ → ℕ
  pub side : ℕ → Side
  pub starts : table 0 ≡ t
  pub noted : note 0 ≡ n
  pub asks : (k : ℕ) → k < len → s.way (table k) d (note k) ≡ Some (side k, note (suc k))
  pub leads : (k : ℕ) → k < len → head_in s.map (segment (table k) (side k)) ≡ Some (table (suc k))
  pub opens : (k : ℕ) → k < len → open_in s.map (segment (table k) (side k)) ≡ true
  pub rise : (k : ℕ) → suc k < len → s.rises (segment (table k) (side k)) (segment (table (suc k)) (side (suc k))) ≡ true
  pub not_there : (k : ℕ) → 0 < k → k ≤ len → table k ≢ d

-- the segment held after k steps
abbrev pub held_after : (ℕ → ℕ) → (ℕ → Side) → ℕ → Option ℕ
held_after table side zero = None
held_after table side (suc k) = Some (segment (table k) (side k))

-- a segment is wanted at table t
pub record Wants (s : Routing) (d t n : ℕ) (wanted : Option ℕ) : Type 0 where
  pub side : Side
  pub note : ℕ
  pub asks : s.way t d n ≡ Some (side, note)
  pub is : wanted ≡ Some (segment t side)

-- why the step at table t with note n, holding h, is refused: each reason where no earlier one holds
abbrev pub Why : Routing → ℕ → Option ℕ → ℕ → ℕ → Reason → Option ℕ → Type 0
Why s d h t n NoWay wanted = (s.way t d n ≡ None) × (wanted ≡ None)
Why s d h t n NoSegment wanted = (w : Wants s d t n wanted) × (head_in s.map (segment t w.side) ≡ None)
Why s d h t n Closed wanted = (w : Wants s d t n wanted) × (u : ℕ) × (head_in s.map (segment t w.side) ≡ Some u) × (open_in s.map (segment t w.side) ≡ false)
Why s d h t n NotRising wanted =
    (w : Wants s d t n wanted) × (u : ℕ) × (head_in s.map (segment t w.side) ≡ Some u) × (open_in s.map (segment t w.side) ≡ true) × (follows s.rises h (segment t w.side) ≡ false)

-- len segments can be taken from o, and the step after them is refused for e
pub record Fault (s : Routing) (o d : ℕ) (e : Refusal) : Type 0 where
  pub len : ℕ
  pub reason : Reason
  pub wanted : Option ℕ
  pub stretch : Stretch s d o (s.first o d) len
  pub why : Why s d (held_after stretch.table stretch.side len) (stretch.table len) (stretch.note len) reason wanted
  pub is : e ≡ refused reason o d (suc len) (held_after stretch.table stretch.side len) wanted

-- the answer is a number exactly where a route has that many segments, and a refusal exactly where that
-- step is the first to fail; there is one route at most, and it has at most 960 segments
pub record Exact (s : Routing) (o d : ℕ) (a : Result ℕ Refusal) : Type 0 where
  pub passes : (len : ℕ) → a ≡ Ok len → (qs : List ℕ) × Route s o d qs × (length qs ≡ len)
  pub routed : (qs : List ℕ) → Route s o d qs → a ≡ Ok (length qs)
  pub refuses : (e : Refusal) → a ≡ Err e → Fault s o d e
  pub faulty : (e : Refusal) → Fault s o d e → a ≡ Err e
  pub short : (qs : List ℕ) → Route s o d qs → length qs ≤ 960
  pub once : (qs rs : List ℕ) → Route s o d qs → Route s o d rs → qs ≡ rs
