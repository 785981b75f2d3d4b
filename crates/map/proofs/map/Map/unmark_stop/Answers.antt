use Rattle.std.proofs.Common.{sym, arith}
use Rattle.map.specs.Layouts.{layout, on_map}
use Rattle.map.proofs.Flags.{others_of_set, set_there}
use Rattle.map.proofs.map.Map.unmark_stop.Goals as goal

pub overflow_sub-self : goal.overflow_sub-self
overflow_sub-self c = omega (arith, others_of_set c.args.self.now.stops c.args.table c.if-not-self-table.false)

pub invariant_of-self-clause-stops_there : goal.invariant_of-self-clause-stops_there
invariant_of-self-clause-stops_there c =
    let m = c.args.self.now in
    set_there (on_map (layout m)) m.stops c.args.table _ (sym c.if-not-has.ensures) m.stops_there

pub invariant_of-self-clause-counted : goal.invariant_of-self-clause-counted
invariant_of-self-clause-counted c = omega (arith, others_of_set c.args.self.now.stops c.args.table c.if-not-self-table.false)
