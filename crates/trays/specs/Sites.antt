-- What a floor is laid out with.
use Rattle.std.specs.Prelude.{ℕ, Bool, not, ◌&&◌, Some, None, Option, ◌==◌}
use Rattle.map.specs.declared.side.Side.{Side}
use Rattle.map.specs.Sides.{segment}
use Rattle.map.specs.Layouts.{Layout, head_in, open_in, is_stop}

-- the stops; the first note of an origin and a destination; the segment wanted at a table towards a
-- destination under a note, with the note carried from there; the head of a segment, if it
-- exists; whether a segment is open
pub record Site : Type 0 where
  pub stop : ℕ → Bool
  pub first : ℕ → ℕ → ℕ
  pub wants : ℕ → ℕ → ℕ → Option (ℕ × ℕ)
  pub head : ℕ → Option ℕ
  pub opens : ℕ → Bool

-- the segment on the side that the way answers, with the note
abbrev pub wanted : ℕ → Option (Side × ℕ) → Option (ℕ × ℕ)
wanted t None = None
wanted t (Some a) = Some (segment t a.0, a.1)

-- from a way-finder's two functions and a map
abbrev pub site_of : (ℕ → ℕ → ℕ) → (ℕ → ℕ → ℕ → Option (Side × ℕ)) → Layout → Site
site_of first way m =
    record { stop = is_stop m; first = first; wants = λ t d n. wanted t (way t d n); head = head_in m; opens = open_in m }

-- two different stops
abbrev pub two_stops : Site → ℕ → ℕ → Bool
two_stops s o d = (s.stop o && s.stop d) && not (o == d)
