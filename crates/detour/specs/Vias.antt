-- The vias that a detour holds.
use Rattle.std.specs.Prelude.{ℕ, suc, Bool, false, cond, not, ◌&&◌, List, [], ◌∷◌, map, replicate, Some, None, Ok, Err, Option, Result, ◌==◌, slice_set}
use Rattle.detour.specs.declared.refusal.Refusal.{Refusal}
use Rattle.detour.specs.declared.refusal.Refusal.TheVariants.{NotThreeTables, HasVia, NoPlace, NoVia}
use Rattle.detour.specs.declared.vias.Via.{Via}
use Rattle.detour.specs.declared.vias.Vias.{Vias}

abbrev pub refusal_number : Refusal → ℕ
refusal_number NotThreeTables = 5
refusal_number HasVia = 6
refusal_number NoPlace = 7
refusal_number NoVia = 8

abbrev pub no_vias : Vias
no_vias = record { places = replicate 32 None }

-- a place holds the via of the pair
abbrev pub matches : ℕ → ℕ → Option Via → Bool
matches o d None = false
matches o d (Some v) = v.origin == o && v.destination == d

abbrev pub table_in : Option Via → Option ℕ
table_in None = None
table_in (Some v) = Some v.table

-- the table by way of which the pair's trays go
abbrev pub via_in : List (Option Via) → ℕ → ℕ → Option ℕ
via_in [] o d = None
via_in (p ∷ ps) o d = cond (matches o d p) (table_in p) (via_in ps o d)

abbrev pub via_for : Vias → ℕ → ℕ → Option ℕ
via_for v o d = via_in v.places o d

-- the first place that holds none
abbrev pub later : Option ℕ → Option ℕ
later None = None
later (Some i) = Some (suc i)

abbrev pub free_in : List (Option Via) → Option ℕ
free_in [] = None
free_in (None ∷ ps) = Some 0
free_in (Some v ∷ ps) = later (free_in ps)

abbrev pub free_place : Vias → Option ℕ
free_place v = free_in v.places

-- the places without the pair's via
abbrev pub cleared : ℕ → ℕ → Option Via → Option Via
cleared o d p = cond (matches o d p) None p

abbrev pub without : Vias → ℕ → ℕ → Vias
without v o d = record { places = map (cleared o d) v.places }

abbrev pub three_tables : ℕ → ℕ → ℕ → Bool
three_tables o d t = not (o == d) && (not (o == t) && not (d == t))

abbrev pub placed : Vias → Via → Option ℕ → Result Vias Refusal
placed v x None = Err NoPlace
placed v x (Some i) = Ok (record { places = slice_set v.places i (Some x) })

abbrev pub unless_held : Option ℕ → Result Vias Refusal → Result Vias Refusal
unless_held None r = r
unless_held (Some t) r = Err HasVia

-- the tables differ, the pair has no via, a place is free: in this order
abbrev pub add_via : Vias → ℕ → ℕ → ℕ → Result Vias Refusal
add_via v o d t =
    cond (three_tables o d t)
    (unless_held (via_for v o d) (placed v (record { origin = o; destination = d; table = t }) (free_place v)))
    (Err NotThreeTables)

abbrev pub if_held : Option ℕ → Vias → Result Vias Refusal
if_held None v = Err NoVia
if_held (Some t) v = Ok v

abbrev pub remove_via : Vias → ℕ → ℕ → Result Vias Refusal
remove_via v o d = if_held (via_for v o d) (without v o d)

-- an accepted change gives the later vias, and a refused one leaves them
abbrev pub told : Result Vias Refusal → Result (Unit {0}) Refusal
told (Ok v) = Ok tt
told (Err r) = Err r

abbrev pub after : Vias → Result Vias Refusal → Vias
after v (Ok w) = w
after v (Err r) = v
