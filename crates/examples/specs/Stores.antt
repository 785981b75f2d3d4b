-- Small stores, plans for them, and their answers as rows of numbers.
use Rattle.std.specs.Prelude.{ℕ, zero, suc, List, [], ◌∷◌, ◌++◌, Some, None, Ok, Err, Option, Result, nat_lt}
use Rattle.map.specs.declared.side.Side.{Side}
use Rattle.map.specs.Sides.{segment}
use Rattle.map.specs.Layouts.{Layout, head_in}
use Rattle.map.specs.Changes.{after, bare_map, mark_stop, close_segment}
use Rattle.orders.specs.declared.key.Pair.{Pair}
use Rattle.ways.specs.RowFirsts.{row_first_way, row_first_key}
use Rattle.links.specs.Courses.{pair_before}
use Rattle.routes.specs.declared.refusal.Refusal.{Refusal}
use Rattle.routes.specs.Refusals.{reason_number}
use Rattle.routes.specs.Routings.{Routing, by_key}
use Rattle.plancheck.specs.declared.pass.Pass.{Pass}
use Rattle.trays.specs.declared.event.Event.{Event}
use Rattle.trays.specs.declared.event.Event.TheVariants.{Refused, Entered, Advanced}
use Rattle.trays.specs.Refusals.{refusal_number, refusal_segments}
use Rattle.trays.specs.Logs.{Log}
use Rattle.trays.specs.Logs.Log.{start, ◌then◌}
use Rattle.planfile.specs.Plans.{way_in, key_in}
use Rattle.examples.specs.Turning.{turning_way, turning_key}

abbrev pub with_stops : Layout → List ℕ → Layout
with_stops m [] = m
with_stops m (t ∷ ts) = with_stops (after m (mark_stop m t)) ts

-- 2 x 2 with four stops, and with segment 1 closed
abbrev pub square : Layout
square = with_stops (bare_map 2 2) (0 ∷ 1 ∷ 16 ∷ 17 ∷ [])

abbrev pub square_closed : Layout
square_closed = after square (close_segment square 1)

-- 2 x 1 with these stops, and with segment 1 closed
abbrev pub line : List ℕ → Layout
line stops = with_stops (bare_map 2 1) stops

abbrev pub line_closed : List ℕ → Layout
line_closed stops = after (line stops) (close_segment (line stops) 1)

abbrev pub row_first : Layout → Routing
row_first m = record { first = λ o d. 0; way = λ t d n. row_first_way t d; map = m; rises = by_key pair_before row_first_key }

abbrev pub turning : Layout → Routing
turning m = record { first = λ o d. 0; way = λ t d n. turning_way t; map = m; rises = by_key nat_lt turning_key }

-- the plan in a file
abbrev pub written : List ℕ → Layout → Routing
written file m = record { first = λ o d. 0; way = λ t d n. way_in file t d; map = m; rises = by_key nat_lt (key_in file) }

-- What the check answers: pairs, segments, longest; or the refusal's number, origin, destination, step, held, wanted.
abbrev pub checked : Result Pass Refusal → List ℕ
checked (Ok a) = a.pairs ∷ a.segments ∷ a.longest ∷ []
checked (Err e) = reason_number e.reason ∷ e.origin ∷ e.destination ∷ e.step ∷ e.held ∷ e.wanted ∷ []

-- What a call of the floor answers: the tray and its segment; the tray, its advances and its new segment; or the
-- refusal's number and the segments held and wanted.
abbrev pub segments : Option (ℕ × ℕ) → List ℕ
segments None = []
segments (Some a) = a.0 ∷ a.1 ∷ []

abbrev pub told : Event → List ℕ
told (Refused c r) = refusal_number r ∷ segments (refusal_segments r)
told (Entered o d n q) = n ∷ q ∷ []
told (Advanced p n k q) = n ∷ k ∷ q ∷ []

abbrev pub all_told : Log Event → List ℕ
all_told start = []
all_told (h then e) = all_told h ++ told e

-- The segments and notes of the first steps from table t under note n.
module _ (s : Routing) (d : ℕ) where
  abbrev pub on_from : ℕ → Option ℕ → (ℕ → List ℕ) → List ℕ
  on_from q None on = []
  on_from q (Some u) on = on u

  abbrev pub step_from : ℕ → Option (Side × ℕ) → (ℕ → ℕ → List ℕ) → List ℕ
  step_from t None on = []
  step_from t (Some a) on = segment t a.0 ∷ a.1 ∷ on_from (segment t a.0) (head_in s.map (segment t a.0)) (λ u. on u a.1)

  abbrev pub steps_on : ℕ → ℕ → ℕ → List ℕ
  steps_on zero t n = []
  steps_on (suc k) t n = step_from t (s.way t d n) (steps_on k)

-- the first k segments of the route from o to d, each with the note carried on it
abbrev pub first_steps : Routing → ℕ → ℕ → ℕ → List ℕ
first_steps s o d k = steps_on s d k o (s.first o d)

abbrev pub parts : Pair ℕ ℕ → List ℕ
parts k = k.first ∷ k.second ∷ []
