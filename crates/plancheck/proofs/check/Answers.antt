use Rattle.std.proofs.Common.{◌+◌, sym, ap, ◌∙◌, arith}
use Rattle.std.proofs.lemmas.Result.{err_from_is_err_and}
use Rattle.map.specs.Layouts.{layout}
use Rattle.routes.specs.Routings.{routing}
use Rattle.routes.proofs.Limits.{proper}
use Rattle.plancheck.specs.Pairs.{stops_of, pairs_of, pairs_from}
use Rattle.plancheck.specs.Plans.{check_pairs}
use Rattle.plancheck.proofs.Marks.{left_none, no_stop_past}
use Rattle.plancheck.proofs.AllPairs.{all_wanted}
use Rattle.plancheck.proofs.Decides.{decided}
use Rattle.plancheck.proofs.Loops.{from_left, from_splits, goes_on, fails}
use Rattle.plancheck.proofs.check.Goals as goal

pub loop-origin-preserved : goal.loop-origin-preserved
loop-origin-preserved g c =
    let s = routing g.W.WayFinder g.R.Ranker g.R.Key.KeyOrder c.args.map.now c.args.finder.now c.args.ranker.now in
    let m = layout c.args.map.now in
    let few = c.loop-origin.invariant.few in
    let more = c.in_ok-pass.ensures.counted in
    record {
      few = record { pairs = omega arith; segments = more.segments };
      rest = goes_on s (pairs_of m) (from_left m) (from_splits m) _ _ _ c.loop-origin.invariant.rest _ c.in_ok-pass.ensures.is;
    }

pub returns-in_err-pass : goal.returns-in_err-pass
returns-in_err-pass g c =
    let s = routing g.W.WayFinder g.R.Ranker g.R.Key.KeyOrder c.args.map.now c.args.finder.now c.args.ranker.now in
    let m = layout c.args.map.now in
    let p = err_from_is_err_and c.from_residual.result c.from_residual.ensures.1 in
    let e = fails s (pairs_of m) (from_left m) (from_splits m) _ _ _ c.loop-origin.invariant.rest _ c.in_err-pass.ensures.is in
    rw (p.1, p.2)
    (record { is = e; decided = decided _ (proper g.W.WayFinder g.R.Ranker g.R.Key.KeyOrder g.met.R.Key.KeyOrder.irreflexive g.met.R.Key.KeyOrder.transitive c.args.map.now _ _) _ e; pairs = all_wanted _ })

pub returns-in_ok-pass : goal.returns-in_ok-pass
returns-in_ok-pass g c =
    let s = routing g.W.WayFinder g.R.Ranker g.R.Key.KeyOrder c.args.map.now c.args.finder.now c.args.ranker.now in
    let m = layout c.args.map.now in
    let none = ap (pairs_from (stops_of m)) (left_none m.stops (c.loop-origin.origin + 1) (no_stop_past c.args.map.now) (omega arith)) in
    let last = goes_on s (pairs_of m) (from_left m) (from_splits m) _ _ _ c.loop-origin.invariant.rest _ c.in_ok-pass.ensures.is in
    let e = sym (ap (check_pairs s c.in_ok-pass.pass) none) ∙ last in
    record { is = e; decided = decided _ (proper g.W.WayFinder g.R.Ranker g.R.Key.KeyOrder g.met.R.Key.KeyOrder.irreflexive g.met.R.Key.KeyOrder.transitive c.args.map.now _ _) _ e; pairs = all_wanted _ }
