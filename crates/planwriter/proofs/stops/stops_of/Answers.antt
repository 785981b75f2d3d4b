use Rattle.std.proofs.Common.{◌+◌, sym, ap, ◌∙◌, arith}
use Rattle.map.specs.Layouts.{layout}
use Rattle.map.proofs.Rules.{map_lawful}
use Rattle.planwriter.proofs.StopLists.{Found, has_room, found_more, found_other, found_all}
use Rattle.planwriter.proofs.stops.stops_of.Goals as goal
use Rattle.planwriter.proofs.stops.stops_of.Goals.{then-is_stop, else-is_stop}

pub push-requires : goal.push-requires
push-requires c = (
  omega arith,
  has_room (layout c.args.map.now) c.loop-table.stops.items c.loop-table.table (map_lawful c.args.map.now).few (omega arith) (sym c.if-is_stop.ensures) c.loop-table.invariant,
)

pub loop-table-preserved : goal.loop-table-preserved
loop-table-preserved c =
    let floor = layout c.args.map.now in
    elim c.if-is_stop.branch [
      | then-is_stop w ↦ found_more floor c.loop-table.stops.items _ c.loop-table.table (omega arith) (sym w.if-is_stop.ensures) (ap (λ s. s.items) w.stops-is ∙ w.push.ensures.items) c.loop-table.invariant
      | else-is_stop w ↦ found_other floor c.loop-table.stops.items _ c.loop-table.table (omega arith) (sym w.if-is_stop.ensures) (ap (λ s. s.items) w.stops-is) c.loop-table.invariant
    ]

-- the loop ends after the last table
pub returns-after-is_stop : goal.returns-after-is_stop
returns-after-is_stop c =
    let floor = layout c.args.map.now in
    let next : Found floor c.if-is_stop.stops.items (c.loop-table.table + 1) =
    elim c.if-is_stop.branch [
      | then-is_stop w ↦ found_more floor c.loop-table.stops.items _ c.loop-table.table (omega arith) (sym w.if-is_stop.ensures) (ap (λ s. s.items) w.stops-is ∙ w.push.ensures.items) c.loop-table.invariant
      | else-is_stop w ↦ found_other floor c.loop-table.stops.items _ c.loop-table.table (omega arith) (sym w.if-is_stop.ensures) (ap (λ s. s.items) w.stops-is) c.loop-table.invariant
    ] in
    found_all floor c.if-is_stop.stops.items (c.loop-table.table + 1) (omega arith) next
