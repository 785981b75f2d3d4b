use Rattle.std.proofs.Common.{◌≡◌, None, Some, Err, sym, ◌∙◌, arith, rules}
use Rattle.std.proofs.lemmas.Result.{err_from_is_err_and}
use Rattle.trays.specs.declared.refusal.Refusal.TheVariants.{NoSegment}
use Rattle.trays.proofs.Walks.{turn_missing, turn_there, turn_spent, turn_fails, turn_on}
use Rattle.floor.proofs.floor.Floor.count_on.Goals as goal

pub returns-in_err-head : goal.returns-in_err-head
returns-in_err-head g c =
    let missing : c.head.result ≡ None = search rules in
    let err : c.from_residual.result ≡ Err NoSegment = search rules in
    err ∙ turn_missing _ _ _ _ _ _ c.loop-count.invariant.1 (sym c.head.ensures ∙ missing)

pub returns-then-head-destination : goal.returns-then-head-destination
returns-then-head-destination g c =
    let there : c.head.result ≡ Some c.in_ok-head.head = search rules in
    turn_there _ _ _ _ _ _ c.loop-count.invariant.1 _ (sym c.head.ensures ∙ there) c.if-head-destination.true

pub returns-then-count-eq-MOST_SEGMENTS : goal.returns-then-count-eq-MOST_SEGMENTS
returns-then-count-eq-MOST_SEGMENTS g c =
    let there : c.head.result ≡ Some c.in_ok-head.head = search rules in
    turn_spent _ _ _ _ _ _ c.loop-count.invariant.1 _ (sym c.head.ensures ∙ there) c.if-head-destination.false (omega arith)

pub returns-in_err-at : goal.returns-in_err-at
returns-in_err-at g c =
    let there : c.head.result ≡ Some c.in_ok-head.head = search rules in
    let p = err_from_is_err_and c.from_residual-in_err-at.result c.from_residual-in_err-at.ensures.1 in
    rw (p.1, p.2)
    (turn_fails _ _ _ _ _ _ c.loop-count.invariant.1 _ (sym c.head.ensures ∙ there) c.if-head-destination.false _ (omega arith) (sym c.in_err-at.ensures.is))

pub loop-count-preserved : goal.loop-count-preserved
loop-count-preserved g c =
    let there : c.head.result ≡ Some c.in_ok-head.head = search rules in (
      omega arith,
      turn_on _ _ _ _ _ _ c.loop-count.invariant.1 _ (sym c.head.ensures ∙ there) c.if-head-destination.false _ (omega arith) (sym c.in_ok-at.ensures.is),
    )
