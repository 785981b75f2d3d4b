use Rattle.std.proofs.Common.{sym, ◌∙◌}
use Rattle.map.specs.Layouts.{layout}
use Rattle.links.proofs.Nearby.{map_sized}
use Rattle.links.proofs.Grown.{some_is, none_is}
use Rattle.tree.proofs.Sweeps.{lowest_next, swept_spread, swept_gone, swept_known}
use Rattle.tree.proofs.growth.Growth.reach_group.Goals as goal
use Rattle.tree.proofs.growth.Growth.reach_group.Goals.{else-is_present-via-then-is_present+else-is_none, else-is_present-via-else-is_present}

pub spread-requires : goal.spread-requires
spread-requires c =
    let fresh = sym c.root.ensures ∙ none_is _ c.if-is_none.ensures in
    record {
      sound = c.requires.sound;
      fresh = fresh;
      there = sym c.is_present.ensures ∙ c.if-is_present.true;
      lowest = lowest_next (layout c.args.map.now) (map_sized c.args.map.now) c.args.table c.args.self.now c.requires fresh;
    }

pub returns-then-is_none : goal.returns-then-is_none
returns-then-is_none c =
    swept_spread (layout c.args.map.now) (map_sized c.args.map.now) c.args.table c.args.self.now c.requires c.spread.new.self c.spread.ensures.sound c.spread.ensures.kept c.spread.ensures.own

pub returns-else-is_present : goal.returns-else-is_present
returns-else-is_present c =
    let m = layout c.args.map.now in
    let size = map_sized c.args.map.now in
    elim c.else-is_present.branch [
      | else-is_present-via-then-is_present+else-is_none w ↦ (let k = some_is _ w.if-is_none.ensures in swept_known m size c.args.table c.args.self.now c.requires k.0 (sym w.root.ensures ∙ k.1))
      | else-is_present-via-else-is_present w ↦ swept_gone m size c.args.table c.args.self.now c.requires (sym c.is_present.ensures ∙ w.if-is_present.false)
    ]
