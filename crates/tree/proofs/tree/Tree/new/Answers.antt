use Rattle.std.proofs.Common.{rules}
use borrow.Author.Tests.{tests}
use Rattle.map.specs.Layouts.{layout}
use Rattle.links.proofs.Nearby.{map_sized}
use Rattle.links.proofs.Grown.{meaning, leads}
use Rattle.links.proofs.Told.{ways_meant, keys_meant}
use Rattle.tree.specs.declared.tree.Tree.{Tree}
use Rattle.tree.specs.Finders.{Holds}
use Rattle.tree.specs.Nodes.{alone, node_in}
use Rattle.arrays.proofs.Made.{made_at}
use Rattle.tree.proofs.Held.{held, ways_held, keys_held}
use Rattle.tree.proofs.tree.Tree.new.Goals as goal

pub returns : goal.returns
returns c =
    let m = layout c.args.map.now in
    let size = map_sized c.args.map.now in
    let g = c.grow-growth.result in
    let w : Tree = record { nodes = c.from_fn.result } in
    let held : Holds m w = held m size g (search rules) c.grow-growth.ensures.roots c.grow-growth.ensures.depths w c.from_fn.ensures.items.long
    (λ t l. made_at _ _ (node_in m g) (λ i y q k. search (rules, tests)) c.from_fn.result 256 c.from_fn.ensures.items t alone l) in
    record { holds = held; ways = ways_held m size w held; keys = keys_held m size w held; meaning = meaning m size; meant_ways = ways_meant m size; meant_keys = keys_meant m size; leads = leads m size }
