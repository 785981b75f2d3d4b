-- What each call answers, and what it leaves.
use Rattle.std.specs.Prelude.{ℕ, ◌+◌, ◌-◌, Bool, true, false, cond, replicate, Some, None, Ok, Err, Option, Result, ◌==◌, nat_lt, slice_index_or, slice_set}
use Rattle.trays.specs.declared.tray.Tray.{Tray}
use Rattle.trays.specs.declared.trays.Trays.{Trays}
use Rattle.trays.specs.declared.refusal.Refusal.{Refusal}
use Rattle.trays.specs.declared.refusal.Refusal.TheVariants.{NoSegment, NoWay, WantedMissing, WantedClosed, NotTwoStops, NumbersUsedUp, WantedTaken, NoTray}
use Rattle.trays.specs.Sites.{Site, two_stops}

abbrev pub no_trays : Trays
no_trays = record { records = replicate 1024 None; entered = 0; delivered = 0 }

-- one more, up to the limit
abbrev pub more : ℕ → ℕ → ℕ
more limit n = cond (nat_lt n limit) (n + 1) n

-- Which segment a tray wants, with the note carried there: no way, no such segment, closed, in this
-- order. h is the segment held, 65535 for none.

abbrev pub opened : ℕ → ℕ × ℕ → Bool → Result (ℕ × ℕ) Refusal
opened h a true = Ok a
opened h a false = Err (WantedClosed h a.0)

abbrev pub found : ℕ → ℕ × ℕ → Bool → Option ℕ → Result (ℕ × ℕ) Refusal
found h a o (Some u) = opened h a o
found h a o None = Err (WantedMissing h a.0)

abbrev pub asked : Site → ℕ → Option (ℕ × ℕ) → Result (ℕ × ℕ) Refusal
asked s h None = Err (NoWay h 65535)
asked s h (Some a) = found h a (s.opens a.0) (s.head a.0)

abbrev pub next : Site → ℕ → ℕ → ℕ → ℕ → Result (ℕ × ℕ) Refusal
next s h t d n = asked s h (s.wants t d n)

-- and then whether it is taken
abbrev pub free : ℕ → ℕ × ℕ → Option Tray → Result (ℕ × ℕ) Refusal
free h a None = Ok a
free h a (Some t) = Err (WantedTaken h a.0)

abbrev pub freed : Trays → ℕ → Result (ℕ × ℕ) Refusal → Result (ℕ × ℕ) Refusal
freed b h (Ok a) = free h a (slice_index_or b.records a.0 None)
freed b h (Err r) = Err r

abbrev pub ask : Site → Trays → ℕ → ℕ → ℕ → ℕ → Result (ℕ × ℕ) Refusal
ask s b h t d n = freed b h (next s h t d n)

-- Enter: the tray is put on the segment wanted at the origin under the first note.

abbrev pub stops : Bool → Result (ℕ × ℕ) Refusal → Result (ℕ × ℕ) Refusal
stops true r = r
stops false r = Err NotTwoStops

abbrev pub room : Bool → Result (ℕ × ℕ) Refusal → Result (ℕ × ℕ) Refusal
room true r = r
room false r = Err NumbersUsedUp

abbrev pub entry : Site → Trays → ℕ → ℕ → Result (ℕ × ℕ) Refusal
entry s b o d = stops (two_stops s o d) (room (nat_lt b.entered 4294967295) (ask s b 65535 o d (s.first o d)))

-- the tray number and the segment
abbrev pub enter_told : Trays → Result (ℕ × ℕ) Refusal → Result (ℕ × ℕ) Refusal
enter_told b (Ok a) = Ok (b.entered + 1, a.0)
enter_told b (Err r) = Err r

abbrev pub enter_done : Trays → ℕ → Result (ℕ × ℕ) Refusal → Trays
enter_done b d (Ok a) =
    record {
      records = slice_set b.records a.0 (Some (record { number = b.entered + 1; destination = d; note = a.1; advances = 0 }));
      entered = b.entered + 1;
      delivered = b.delivered;
    }
enter_done b d (Err r) = b

abbrev pub enter_outcome : Site → Trays → ℕ → ℕ → Result (ℕ × ℕ) Refusal
enter_outcome s b o d = enter_told b (entry s b o d)

abbrev pub enter_later : Site → Trays → ℕ → ℕ → Trays
enter_later s b o d = enter_done b d (entry s b o d)

-- Advance: the tray on segment p comes off where the head of p is its destination, and else moves to
-- the segment wanted at the head.

pub data Move : Type 0 where
  refuses : Refusal → Move
  leaves : Tray → Move
  goes : Tray → ℕ → ℕ → Move

abbrev pub onward : Tray → Result (ℕ × ℕ) Refusal → Move
onward t (Ok a) = goes t a.0 a.1
onward t (Err r) = refuses r

abbrev pub arrived : Bool → Tray → Move → Move
arrived true t v = leaves t
arrived false t v = v

abbrev pub standing : Site → Trays → ℕ → ℕ → Option Tray → Move
standing s b p u None = refuses NoTray
standing s b p u (Some t) = arrived (u == t.destination) t (onward t (ask s b p u t.destination t.note))

abbrev pub leading : Site → Trays → ℕ → Option ℕ → Move
leading s b p None = refuses NoSegment
leading s b p (Some u) = standing s b p u (slice_index_or b.records p None)

abbrev pub move : Site → Trays → ℕ → Move
move s b p = leading s b p (s.head p)

-- one advance more, and the note carried from the table just left
abbrev pub moved : Tray → ℕ → Tray
moved t m = record { number = t.number; destination = t.destination; note = m; advances = more 65535 t.advances }

abbrev pub move_done : Trays → ℕ → Move → Trays
move_done b p (refuses r) = b
move_done b p (leaves t) = record { records = slice_set b.records p None; entered = b.entered; delivered = more 4294967295 b.delivered }
move_done b p (goes t q m) =
    record { records = slice_set (slice_set b.records q (Some (moved t m))) p None; entered = b.entered; delivered = b.delivered }

-- the tray's number, its advances and its new segment, 65535 for a delivery
abbrev pub move_told : Move → Result (ℕ × ℕ × ℕ) Refusal
move_told (refuses r) = Err r
move_told (leaves t) = Ok (t.number, more 65535 t.advances, 65535)
move_told (goes t q m) = Ok (t.number, more 65535 t.advances, q)

abbrev pub advance_outcome : Site → Trays → ℕ → Result (ℕ × ℕ × ℕ) Refusal
advance_outcome s b p = move_told (move s b p)

abbrev pub advance_later : Site → Trays → ℕ → Trays
advance_later s b p = move_done b p (move s b p)

-- Look: the record on segment p.

abbrev pub seen : Option Tray → Result Tray Refusal
seen None = Err NoTray
seen (Some t) = Ok t

abbrev pub looking : Trays → ℕ → Option ℕ → Result Tray Refusal
looking b p None = Err NoSegment
looking b p (Some u) = seen (slice_index_or b.records p None)

abbrev pub look_outcome : Site → Trays → ℕ → Result Tray Refusal
look_outcome s b p = looking b p (s.head p)

-- Counts: trays let in, delivered and on the floor.
abbrev pub counts_outcome : Trays → ℕ × ℕ × ℕ
counts_outcome b = (b.entered, b.delivered, b.entered - b.delivered)
