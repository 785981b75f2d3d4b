use Rattle.std.proofs.Common.{◌+◌, ◌<◌, sym, ap, ◌∙◌, subst, arith}
use Rattle.map.specs.Layouts.{layout}
use Rattle.links.specs.Links.{near}
use Rattle.links.proofs.Nearby.{map_sized}
use Rattle.links.proofs.Grown.{some_is, none_is}
use Rattle.tree.specs.Growths.{count, depth_in, Spreading, Seen, Kept}
use Rattle.tree.proofs.Spreads.{room, within, spreading_new, kept_new, seen_new, seen_old, kept_all}
use Rattle.tree.proofs.growth.Growth.visit.Goals as goal

pub overflow_add-depth : goal.overflow_add-depth
overflow_add-depth c =
    let h = c.requires.spreading in
    let over = ap (λ t. near (layout c.args.map.now) t c.args.side) (sym c.placed-table.ensures) ∙ sym c.near.ensures ∙ c.in-Some.is in
    let free : (count c.args.self.now) < 256 = room _ _ _ _ h.sound (within _ (map_sized c.args.map.now) _ _ _ h c.requires.within _ _ over) (sym c.root.ensures ∙ none_is _ c.if-is_none.ensures) in
    let low = h.sound.shallow c.args.place c.requires.within in
    let here = c.depth-depth.ensures ∙ ap (depth_in c.args.self.now) c.placed-table.ensures in
    omega arith

pub reach-requires : goal.reach-requires
reach-requires c =
    let h = c.requires.spreading in
    let over = ap (λ t. near (layout c.args.map.now) t c.args.side) (sym c.placed-table.ensures) ∙ sym c.near.ensures ∙ c.in-Some.is in
    room _ _ _ _ h.sound (within _ (map_sized c.args.map.now) _ _ _ h c.requires.within _ _ over) (sym c.root.ensures ∙ none_is _ c.if-is_none.ensures)

pub returns-then-is_none : goal.returns-then-is_none
returns-then-is_none c =
    let size = map_sized c.args.map.now in
    let over = ap (λ t. near (layout c.args.map.now) t c.args.side) (sym c.placed-table.ensures) ∙ sym c.near.ensures ∙ c.in-Some.is in
    let fresh = sym c.root.ensures ∙ none_is _ c.if-is_none.ensures in
    let is = sym c.reach.ensures in
    record {
      spreading = subst (λ g. Spreading (layout c.args.map.now) c.args.root c.args.place g) is (spreading_new _ size _ _ _ c.requires.spreading c.requires.within _ _ over _ fresh (ap (λ n. n + 1) (c.depth-depth.ensures ∙ ap (depth_in c.args.self.now) c.placed-table.ensures)));
      kept = subst (λ g. Kept c.args.self.now g) is (kept_new _ size _ _ _ c.requires.spreading c.requires.within _ _ over _ fresh (ap (λ n. n + 1) (c.depth-depth.ensures ∙ ap (depth_in c.args.self.now) c.placed-table.ensures)));
      seen = subst (λ g. Seen (layout c.args.map.now) c.args.root c.args.place c.args.side g) is (seen_new _ size _ _ _ c.requires.spreading c.requires.within _ _ over _ fresh (ap (λ n. n + 1) (c.depth-depth.ensures ∙ ap (depth_in c.args.self.now) c.placed-table.ensures)));
    }

pub returns-else-is_none : goal.returns-else-is_none
returns-else-is_none c =
    let over = ap (λ t. near (layout c.args.map.now) t c.args.side) (sym c.placed-table.ensures) ∙ sym c.near.ensures ∙ c.in-Some.is in
    let k = some_is _ c.if-is_none.ensures in
    record {
      spreading = c.requires.spreading;
      kept = kept_all c.args.self.now;
      seen = seen_old _ (map_sized c.args.map.now) _ _ _ c.requires.spreading c.requires.within _ _ over k.0 (sym c.root.ensures ∙ k.1);
    }
