use Rattle.std.proofs.Common.{◌<◌, arith, below_more}
use Rattle.map.specs.Layouts.{layout}
use Rattle.tree.specs.Growths.{count}
use Rattle.tree.proofs.Spreads.{seen_kept, kept_on, four_seen, taken}
use Rattle.tree.proofs.growth.Growth.look_around.Goals as goal

pub loop-side-preserved : goal.loop-side-preserved
loop-side-preserved c =
    let so = c.loop-side.invariant in
    let within : c.args.place < count c.loop-side.self = let more = so.kept.more in omega arith in
    record {
      spreading = c.visit.ensures.spreading;
      kept = kept_on _ _ _ so.kept c.visit.ensures.kept;
      seen = below_more _ _ (λ k l. seen_kept _ _ _ _ _ _ so.spreading within c.visit.ensures.kept (so.seen k l)) c.visit.ensures.seen;
    }

pub returns : goal.returns
returns c =
    let so = c.loop-side.invariant in
    let within : c.args.place < count c.loop-side.self = let more = so.kept.more in omega arith in
    record { spreading = taken _ _ _ _ so.spreading within (four_seen (layout c.args.map.now) c.args.root c.args.place c.loop-side.self (λ k l. so.seen k (omega arith))); kept = so.kept }
