-- Marking a table that is marked already.
use Rattle.std.proofs.Common.{◌≡◌, ℕ, ◌<◌, ◌≤◌, Bool, true, false, Ok, sym, ap, ◌∙◌, arith}
use lib.Seq.{set-get_or}
use Rattle.std.proofs.lemmas.Bool.{lt-ltb}
use Rattle.map.specs.Layouts.{Layout, on_map, is_stop, stop_count}
use Rattle.map.specs.Changes.{set_stop, mark_stop, other_stops}
use Rattle.map.proofs.Flags.{others_of_set}

module _ (m : Layout) (t : ℕ) (on : on_map m t ≡ true) where
  -- what stands already as called for
  same : (b : Bool) → is_stop m t ≡ b → set_stop b m t ≡ m
  same b e = ap (λ x. set_stop x m t) (sym e) ∙ ap (λ bs. record { width = m.width; height = m.height; closed_tables = m.closed_tables; closed_segments = m.closed_segments; stops = bs }) (set-get_or m.stops t false)

  pub marked_already : is_stop m t ≡ true → stop_count m ≤ 64 → mark_stop m t ≡ Ok m
  marked_already e few =
      let others = others_of_set m.stops t e in
      let lt : other_stops m t < 64 = omega arith in
      rw (on, lt-ltb (other_stops m t) 64 lt) (ap Ok (same true e))
