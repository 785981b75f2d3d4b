use Rattle.std.proofs.Common.{◌≡◌, ◌+◌, [], subst, arith, rules}
use Rattle.map.specs.Layouts.{layout}
use Rattle.links.proofs.Nearby.{map_sized}
use Rattle.tree.specs.Growths.{Swept}
use Rattle.tree.proofs.Sweeps.{swept_none, roots_all, depths_all}
use Rattle.tree.proofs.growth.grow.Goals as goal

pub loop-table-init : goal.loop-table-init
loop-table-init c =
    let none : c.new.result ≡ record { items = [] } = search rules in
    rw none (swept_none (layout c.args.map.now))

pub returns-2 : goal.returns-2
returns-2 c =
    let m = layout c.args.map.now in
    let size = map_sized c.args.map.now in
    let g = c.reach_group.new.self in
    let done : c.loop-table.table + 1 ≡ 256 = omega arith in
    let all : Swept m 256 g = subst (λ i. Swept m i g) done c.reach_group.ensures in
    record { roots = roots_all m size g all; depths = depths_all m size g all }
