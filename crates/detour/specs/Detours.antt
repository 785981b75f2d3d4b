-- The notes and ways of a detour over a way-finder.
use Rattle.std.specs.Prelude.{ℕ, ◌+◌, ◌-◌, ◌*◌, ◌/◌, ◌%◌, Bool, cond, Some, None, Option, ◌==◌, nat_le}
use Rattle.map.specs.declared.side.Side.{Side}
use Rattle.detour.specs.declared.detour.Detour.{Detour}
use Rattle.detour.specs.declared.vias.Vias.{Vias}
use Rattle.detour.specs.Vias.{via_for}

-- A detour's note holds a note i of the one below, and h: 0, or the via's table plus 1 while the tray is on its way there.
abbrev pub code : ℕ → ℕ → ℕ
code i h = 257 * i + h

-- the h of a tray on its way to the via, or to its destination
abbrev pub on_way_to : Option ℕ → ℕ
on_way_to None = 0
on_way_to (Some v) = v + 1

-- a note that is no code: it is given where i is too large, and has no way
abbrev pub no_code : ℕ
no_code = 4294967295

abbrev pub fits : ℕ → Bool
fits i = nat_le i 16711934

abbrev pub coded : ℕ → ℕ → ℕ
coded i h = cond (fits i) (code i h) no_code

-- the way below, its note coded with h
abbrev pub carried : ℕ → Option (Side × ℕ) → Option (Side × ℕ)
carried h None = None
carried h (Some a) = cond (fits a.1) (Some (a.0, code a.1 h)) None

module _ (first : ℕ → ℕ → ℕ) (way : ℕ → ℕ → ℕ → Option (Side × ℕ)) where
  abbrev pub first_via : Option ℕ → ℕ → ℕ → ℕ
  first_via None o d = coded (first o d) 0
  first_via (Some v) o d = coded (first o v) (v + 1)

  -- the first note of a pair
  abbrev pub detour_first : Vias → ℕ → ℕ → ℕ
  detour_first vias o d = first_via (via_for vias o d) o d

  -- at table t, under a note of i and h: on the way to the destination, on the way to the via, or at the via
  abbrev pub way_under : ℕ → ℕ → ℕ → ℕ → Option (Side × ℕ)
  way_under t d i h =
      cond (h == 0) (carried 0 (way t d i))
      (cond (t == h - 1) (carried 0 (way t d (first t d))) (carried h (way t (h - 1) i)))

  abbrev pub detour_way : ℕ → ℕ → ℕ → Option (Side × ℕ)
  detour_way t d n = cond (n == no_code) None (way_under t d (n / 257) (n % 257))

-- the same floor of way-finders with other vias
abbrev pub with_vias : {W : Type 0} → Detour W → Vias → Detour W
with_vias w v = record { below = w.below; vias = v }
