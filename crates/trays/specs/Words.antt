-- What a history says of each tray.
use Rattle.std.specs.Prelude.{ℕ, zero, suc, ◌+◌, Bool, true, false, cond, not, ◌&&◌, List, [], length, drop, is_some, Some, None, Option, ◌==◌}
use Rattle.trays.specs.Logs.{Log}
use Rattle.trays.specs.Logs.Log.{start, ◌then◌}
use Rattle.trays.specs.declared.event.Event.{Event}
use Rattle.trays.specs.declared.event.Event.TheVariants.{Refused, Entered, Advanced}

-- how many entries were accepted
abbrev pub let_in : Log Event → ℕ
let_in start = 0
let_in (h then Refused c r) = let_in h
let_in (h then Entered o d m q) = suc (let_in h)
let_in (h then Advanced p m k q) = let_in h

-- the origin and the destination of tray n: those of the n-th accepted entry
abbrev pub pair_of : ℕ → Log Event → Option (ℕ × ℕ)
pair_of n start = None
pair_of n (h then Refused c r) = pair_of n h
pair_of n (h then Entered o d m q) = cond (n == suc (let_in h)) (Some (o, d)) (pair_of n h)
pair_of n (h then Advanced p m k q) = pair_of n h

abbrev pub one : Bool → ℕ
one true = 1
one false = 0

-- the accepted advances that answered n
abbrev pub advances_of : ℕ → Log Event → ℕ
advances_of n start = 0
advances_of n (h then Refused c r) = advances_of n h
advances_of n (h then Entered o d m q) = advances_of n h
advances_of n (h then Advanced p m k q) = cond (n == m) (suc (advances_of n h)) (advances_of n h)

-- the segment named by the advance that answered n and 65535
abbrev pub left_from : ℕ → Log Event → Option ℕ
left_from n start = None
left_from n (h then Refused c r) = left_from n h
left_from n (h then Entered o d m q) = left_from n h
left_from n (h then Advanced p m k q) = cond (q == 65535) (cond (n == m) (Some p) (left_from n h)) (left_from n h)

-- the segment last answered for n
abbrev pub segment_of : ℕ → Log Event → Option ℕ
segment_of n start = None
segment_of n (h then Refused c r) = segment_of n h
segment_of n (h then Entered o d m q) = cond (n == m) (Some q) (segment_of n h)
segment_of n (h then Advanced p m k q) = cond (n == m) (Some q) (segment_of n h)

abbrev pub is_delivered : ℕ → Log Event → Bool
is_delivered n h = is_some (left_from n h)

-- from its entry until it is delivered
abbrev pub on_floor : ℕ → Log Event → Bool
on_floor n h = is_some (pair_of n h) && not (is_delivered n h)

-- the accepted advances, whatever they answered
abbrev pub advances_in : Log Event → ℕ
advances_in start = 0
advances_in (h then Refused c r) = advances_in h
advances_in (h then Entered o d m q) = advances_in h
advances_in (h then Advanced p m k q) = suc (advances_in h)

abbrev pub accepted : Event → Bool
accepted (Refused c r) = false
accepted (Entered o d m q) = true
accepted (Advanced p m k q) = true

-- the sum of f over 1 to k
abbrev pub sum_to : (ℕ → ℕ) → ℕ → ℕ
sum_to f zero = 0
sum_to f (suc k) = sum_to f k + f (suc k)

-- the sum over the trays let in, and how many of them are such
abbrev pub sum_over : (ℕ → ℕ) → Log Event → ℕ
sum_over f h = sum_to f (let_in h)

abbrev pub number : (ℕ → Bool) → Log Event → ℕ
number test h = sum_to (λ n. one (test n)) (let_in h)

module _ (routes : ℕ → ℕ → List ℕ) where
  abbrev pub route_of : Option (ℕ × ℕ) → List ℕ
  route_of None = []
  route_of (Some a) = routes a.0 a.1

  -- the segments of tray n's route, less one from the start for each of its advances
  abbrev pub remaining : ℕ → Log Event → List ℕ
  remaining n h = drop (advances_of n h) (route_of (pair_of n h))

  -- how many a tray on the floor has still to make
  abbrev pub to_go : ℕ → Log Event → ℕ
  to_go n h = cond (on_floor n h) (length (remaining n h)) 0
