-- What is promised after every list of calls, given each pair's route and the length of the longest.
use Rattle.std.specs.Prelude.{◌≡◌, ℕ, ◌+◌, ◌≤◌, min, true, false, ◌↔◌, List, ◌∷◌, length, Some, Ok}
use Rattle.trays.specs.declared.tray.Tray.{Tray}
use Rattle.trays.specs.declared.trays.Trays.{Trays}
use Rattle.trays.specs.declared.event.Call.{Call}
use Rattle.trays.specs.declared.event.Call.TheVariants.{Advance}
use Rattle.trays.specs.declared.event.Event.{Event}
use Rattle.trays.specs.Logs.{Log, joined, each}
use Rattle.trays.specs.Sites.{Site}
use Rattle.trays.specs.Outcomes.{no_trays, look_outcome, counts_outcome}
use Rattle.trays.specs.Lefts.{left_outcome}
use Rattle.trays.specs.Runs.{event, later, after, history}
use Rattle.trays.specs.Words.{let_in, pair_of, advances_of, left_from, segment_of, is_delivered, on_floor, advances_in, accepted, sum_over, number, remaining, to_go}

-- no tray is on the floor
abbrev pub Empty : Log Event → Type 0
Empty h = (n : ℕ) → on_floor n h ≡ false

-- counts tells how many trays were let in, were delivered and are on the floor, and they add up
pub record Counted (b : Trays) (h : Log Event) : Type 0 where
  pub tells : counts_outcome b ≡ (let_in h, number (λ n. is_delivered n h) h, number (λ n. on_floor n h) h)
  pub sum : let_in h ≡ number (λ n. is_delivered n h) h + number (λ n. on_floor n h) h

-- some advance would be accepted
abbrev pub CanAdvance : Site → Trays → Type 0
CanAdvance s b = (p : ℕ) × (accepted (event s b (Advance p)) ≡ true)

module _ (s : Site) (routes : ℕ → ℕ → List ℕ) where
  -- tray n is alone on the first of its remaining segments, left tells how many they are, and look shows it there
  pub record Alone (b : Trays) (h : Log Event) (n : ℕ) : Type 0 where
    pub segment : ℕ
    pub rest : List ℕ
    pub first : remaining routes n h ≡ segment ∷ rest
    pub there : segment_of n h ≡ Some segment
    pub no_other : (m : ℕ) → on_floor m h ≡ true → segment_of m h ≡ Some segment → m ≡ n
    pub left : left_outcome s b segment ≡ Ok (length (remaining routes n h))
    pub tray : Tray
    pub look : look_outcome s b segment ≡ Ok tray
    pub its_number : tray.number ≡ n
    pub its_advances : tray.advances ≡ min (advances_of n h) 65535

  -- tray n, delivered from segment p, came off at its destination after as many advances as its route has segments
  pub record Arrived (longest : ℕ) (h : Log Event) (n p : ℕ) : Type 0 where
    pub origin : ℕ
    pub destination : ℕ
    pub pair : pair_of n h ≡ Some (origin, destination)
    pub head : s.head p ≡ Some destination
    pub advances : advances_of n h ≡ length (routes origin destination)
    pub at_most : advances_of n h ≤ longest

  -- of the trays b after the history h
  pub record Kept (longest : ℕ) (b : Trays) (h : Log Event) : Type 0 where
    pub refused : (c : Call) → accepted (event s b c) ≡ false → later s b c ≡ b
    pub moves : (n : ℕ) → on_floor n h ≡ true → CanAdvance s b
    pub alone : (n : ℕ) → on_floor n h ≡ true → Alone b h n
    pub arrived : (n p : ℕ) → left_from n h ≡ Some p → Arrived longest h n p
    pub counted : Counted b h

  -- after the calls cs, a rest of advances only, on the segments ps, leaves the floor empty exactly where those of
  -- the rest that are accepted are as many as the remaining segments of all trays were after cs
  abbrev pub Empties : Log Call → Log ℕ → Type 0
  Empties cs ps =
      Empty (history s no_trays (joined cs (each Advance ps))) ↔ (advances_in (history s (after s no_trays cs) (each Advance ps)) ≡ sum_over (λ n. to_go routes n (history s no_trays cs)) (history s no_trays cs))

  pub record Promised (longest : ℕ) (cs : Log Call) : Type 0 where
    pub kept : Kept longest (after s no_trays cs) (history s no_trays cs)
    pub empties : (ps : Log ℕ) → Empties cs ps
    pub drains : (ps : Log ℕ) × Empty (history s no_trays (joined cs (each Advance ps)))
