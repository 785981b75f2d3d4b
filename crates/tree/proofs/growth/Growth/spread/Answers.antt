use Rattle.std.proofs.Common.{◌≡◌, Some, sym, subst, arith}
use Rattle.map.specs.Layouts.{layout}
use Rattle.links.proofs.Nearby.{map_sized, present_small}
use Rattle.tree.specs.Growths.{count, root_in, Sound, Spreading, Kept}
use Rattle.tree.proofs.Spreads.{room, begins, kept_begun, own_begun, kept_all, kept_on}
use Rattle.tree.proofs.growth.Growth.spread.Goals as goal

pub reach-requires : goal.reach-requires
reach-requires c = room _ _ _ _ c.requires.sound (present_small _ (map_sized c.args.map.now) _ c.requires.there) c.requires.fresh

pub loop-place-init : goal.loop-place-init
loop-place-init c =
    let small = present_small _ (map_sized c.args.map.now) _ c.requires.there in
    let begun = subst (λ g. Spreading (layout c.args.map.now) c.args.root (count c.args.self.now) g) (sym c.reach.ensures) (begins _ _ _ c.requires.sound small c.requires.fresh c.requires.there c.requires.lowest) in
    (subst (λ n. Spreading (layout c.args.map.now) c.args.root n c.reach.new.self) (sym c.len-place.ensures.value) begun, kept_all _)

pub returns : goal.returns
returns c =
    let small = present_small _ (map_sized c.args.map.now) _ c.requires.there in
    let s = c.loop-place.invariant.0.sound in
    let done : c.loop-place.place ≡ count c.loop-place.self = omega (arith, s.taken_few) in
    let first = subst (λ g. Kept c.args.self.now g) (sym c.reach.ensures) (kept_begun _ _ _ c.requires.sound small c.requires.fresh c.requires.there c.requires.lowest) in
    let own = subst (λ g. root_in g c.args.root ≡ Some c.args.root) (sym c.reach.ensures) (own_begun _ _ _ c.requires.sound small c.requires.fresh c.requires.there c.requires.lowest) in
    record {
      sound = subst (λ n. Sound (layout c.args.map.now) n c.loop-place.self) done s;
      kept = kept_on _ _ _ first c.loop-place.invariant.1;
      own = c.loop-place.invariant.1.roots c.args.root c.args.root own;
    }
