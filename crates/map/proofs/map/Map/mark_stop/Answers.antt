use Rattle.std.proofs.Common.{◌<◌, ◌≤◌, length, sym, ap, arith}
use Rattle.map.specs.Layouts.{layout, on_map, stop_count}
use Rattle.map.specs.Changes.{told}
use Rattle.map.proofs.Flags.{one_more, set_there}
use Rattle.map.proofs.Stops.{marked_already}
use Rattle.map.proofs.map.Map.mark_stop.Goals as goal

pub returns-then-self-table-clause-outcome : goal.returns-then-self-table-clause-outcome
returns-then-self-table-clause-outcome c =
    let m = layout c.args.self.now in
    let few : stop_count (layout c.args.self.now) ≤ 64 = omega arith in
    sym (ap told (marked_already m c.args.table (sym c.if-not-has.ensures) c.if-self-table.true few))

pub invariant_of-self-clause-stops_there : goal.invariant_of-self-clause-stops_there
invariant_of-self-clause-stops_there c =
    let m = c.args.self.now in
    set_there (on_map (layout m)) m.stops c.args.table _ (sym c.if-not-has.ensures) m.stops_there

pub invariant_of-self-clause-counted : goal.invariant_of-self-clause-counted
invariant_of-self-clause-counted c =
    let m = c.args.self.now in
    let within : c.args.table < length m.stops = omega arith in
    omega (arith, one_more m.stops c.args.table within c.if-self-table.false)
