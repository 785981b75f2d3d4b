-- The written answer of a route's check, step by step.
use Rattle.std.specs.Prelude.{ℕ, zero, suc, ◌+◌, cond, Some, None, Ok, Err, Option, Result, ◌==◌}
use Rattle.map.specs.declared.side.Side.{Side}
use Rattle.map.specs.Sides.{segment}
use Rattle.map.specs.Layouts.{head_in, open_in}
use Rattle.routes.specs.declared.refusal.Reason.{Reason}
use Rattle.routes.specs.declared.refusal.Reason.TheVariants.{NoWay, NoSegment, Closed, NotRising}
use Rattle.routes.specs.declared.refusal.Refusal.{Refusal}
use Rattle.routes.specs.Refusals.{segment_number}
use Rattle.routes.specs.Routings.{Routing, follows}

abbrev pub refused : Reason → ℕ → ℕ → ℕ → Option ℕ → Option ℕ → Refusal
refused why o d k held wanted = record { reason = why; origin = o; destination = d; step = k; held = segment_number held; wanted = segment_number wanted }

module _ (s : Routing) (o d : ℕ) where
  -- step k holds h and wants segment q, whose head is given: no such segment, closed, key not rising, in this order
  abbrev pub wanting : ℕ → Option ℕ → ℕ → Option ℕ → (ℕ → Result ℕ Refusal) → Result ℕ Refusal
  wanting k h q None on = Err (refused NoSegment o d k h (Some q))
  wanting k h q (Some u) on =
      cond (open_in s.map q)
      (cond (follows s.rises h q) (cond (u == d) (Ok k) (on u)) (Err (refused NotRising o d k h (Some q))))
      (Err (refused Closed o d k h (Some q)))

  -- step k is at table t, and has its way
  abbrev pub asking : ℕ → Option ℕ → ℕ → Option (Side × ℕ) → (ℕ → ℕ → ℕ → Result ℕ Refusal) → Result ℕ Refusal
  asking k h t None on = Err (refused NoWay o d k h None)
  asking k h t (Some a) on = wanting k h (segment t a.0) (head_in s.map (segment t a.0)) (λ u. on (segment t a.0) u a.1)

  -- the steps from k on, of which at most j are made; an answer is never Ok 0, since steps count from 1
  unfoldable pub steps : ℕ → ℕ → Option ℕ → ℕ → ℕ → Result ℕ Refusal
  steps zero k h t n = Ok 0
  steps (suc j) k h t n = asking k h t (s.way t d n) (λ q u m. steps j (k + 1) (Some q) u m)

-- how many segments the route has, or the first step that is refused; rising keys repeat no
-- segment and a floor has at most 960, so 961 steps are never made
abbrev pub route_check : Routing → ℕ → ℕ → Result ℕ Refusal
route_check s o d = steps s o d 961 1 None o (s.first o d)
