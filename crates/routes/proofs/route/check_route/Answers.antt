use Rattle.std.proofs.Common.{Some, None, sym, ◌∙◌, arith}
use Rattle.routes.proofs.Limits.{proper}
use Rattle.routes.proofs.Loops.{kept_follows, named, no_way, no_segment, closed, not_rising, there, on}
use Rattle.routes.proofs.Exactly.{exact}
use Rattle.routes.proofs.route.check_route.Goals as goal

pub returns-in_default : goal.returns-in_default
returns-in_default g c =
    let e = named _ _ _ _ _ _ _ None c.segment_of.ensures c.refused.ensures ∙ no_way _ _ _ _ _ _ _ c.loop-number.invariant.2 (sym c.way.ensures ∙ c.in_default.is) in
    record { is = e; exact = exact _ _ _ (proper g.W.WayFinder g.R.Ranker g.R.Key.KeyOrder g.met.R.Key.KeyOrder.irreflexive g.met.R.Key.KeyOrder.transitive c.args.map.now _ _) _ e }

pub returns-in_default-head : goal.returns-in_default-head
returns-in_default-head g c =
    let e = named _ _ _ _ _ _ _ (Some c.segment_from-wanted.result) c.segment_of.ensures c.refused-in_default-head.ensures ∙ no_segment _ _ _ _ _ _ _ c.loop-number.invariant.2 _ _ _ (sym c.way.ensures ∙ c.in-Some.is) c.segment_from-wanted.ensures.is (sym c.head.ensures ∙ c.in_default-head.is) in
    record { is = e; exact = exact _ _ _ (proper g.W.WayFinder g.R.Ranker g.R.Key.KeyOrder g.met.R.Key.KeyOrder.irreflexive g.met.R.Key.KeyOrder.transitive c.args.map.now _ _) _ e }

pub returns-then-not-is_open : goal.returns-then-not-is_open
returns-then-not-is_open g c =
    let e = named _ _ _ _ _ _ _ (Some c.segment_from-wanted.result) c.segment_of.ensures c.refused-then-not-is_open.ensures ∙ closed _ _ _ _ _ _ _ c.loop-number.invariant.2 _ _ _ (sym c.way.ensures ∙ c.in-Some.is) c.segment_from-wanted.ensures.is _ (sym c.head.ensures ∙ c.in-Some-head.is) (sym c.is_open.ensures ∙ c.if-not-is_open.true) in
    record { is = e; exact = exact _ _ _ (proper g.W.WayFinder g.R.Ranker g.R.Key.KeyOrder g.met.R.Key.KeyOrder.irreflexive g.met.R.Key.KeyOrder.transitive c.args.map.now _ _) _ e }

pub returns-then-not-may_follow : goal.returns-then-not-may_follow
returns-then-not-may_follow g c =
    let e = named _ _ _ _ _ _ _ (Some c.segment_from-wanted.result) c.segment_of.ensures c.refused-then-not-may_follow.ensures ∙ not_rising _ _ _ _ _ _ _ c.loop-number.invariant.2 _ _ _ (sym c.way.ensures ∙ c.in-Some.is) c.segment_from-wanted.ensures.is _ (sym c.head.ensures ∙ c.in-Some-head.is) (sym c.is_open.ensures ∙ c.if-not-is_open.false) (kept_follows _ _ _ _ _ _ c.loop-number.invariant.1 c.key-key.ensures (sym c.may_follow.ensures ∙ c.if-not-may_follow.true)) in
    record { is = e; exact = exact _ _ _ (proper g.W.WayFinder g.R.Ranker g.R.Key.KeyOrder g.met.R.Key.KeyOrder.irreflexive g.met.R.Key.KeyOrder.transitive c.args.map.now _ _) _ e }

pub returns-then-head-destination : goal.returns-then-head-destination
returns-then-head-destination g c =
    let e = there _ _ _ _ _ _ _ c.loop-number.invariant.2 _ _ _ (sym c.way.ensures ∙ c.in-Some.is) c.segment_from-wanted.ensures.is _ (sym c.head.ensures ∙ c.in-Some-head.is) (sym c.is_open.ensures ∙ c.if-not-is_open.false) (kept_follows _ _ _ _ _ _ c.loop-number.invariant.1 c.key-key.ensures (sym c.may_follow.ensures ∙ c.if-not-may_follow.false)) c.if-head-destination.true in
    record { is = e; exact = exact _ _ _ (proper g.W.WayFinder g.R.Ranker g.R.Key.KeyOrder g.met.R.Key.KeyOrder.irreflexive g.met.R.Key.KeyOrder.transitive c.args.map.now _ _) _ e }

pub loop-number-preserved : goal.loop-number-preserved
loop-number-preserved g c = (
  omega arith,
  c.key-key.ensures,
  on _ _ _ _ _ _ _ c.loop-number.invariant.2 _ _ _ (sym c.way.ensures ∙ c.in-Some.is) c.segment_from-wanted.ensures.is _ (sym c.head.ensures ∙ c.in-Some-head.is) (sym c.is_open.ensures ∙ c.if-not-is_open.false)
      (proper g.W.WayFinder g.R.Ranker g.R.Key.KeyOrder g.met.R.Key.KeyOrder.irreflexive g.met.R.Key.KeyOrder.transitive c.args.map.now _ _)
      (kept_follows _ _ _ _ _ _ c.loop-number.invariant.1 c.key-key.ensures (sym c.may_follow.ensures ∙ c.if-not-may_follow.false)) c.if-head-destination.false,
)
