use Rattle.std.proofs.Common.{◌≡◌, ◌+◌, ◌*◌, length, get_or, sym, ◌∙◌, arith}
use Rattle.std.proofs.lemmas.Result.{err_from_is_err_and}
use Rattle.planfile.proofs.Verdicts.{part_refusal, from_more, from_bad, from_none, others_decide}
use Rattle.planfile.proofs.judge.judge.Goals as goal

pub returns-in_err-read_block-2 : goal.returns-in_err-read_block-2
returns-in_err-read_block-2 c =
    let file = c.args.file.now in
    let n = get_or file 6 0 in
    let k = c.loop-number.number in
    let p = err_from_is_err_and c.from_residual-in_err-read_block-2.result c.from_residual-in_err-read_block-2.ensures.1 in
    let long : length file ≡ 512 * (n + 9) = omega arith in
    rw (p.1, p.2)
    (others_decide file (sym c.if-not-length_fits.ensures) c.in_ok-read_block.ensures long ∙ sym c.loop-number.invariant
    ∙ from_bad file (n + 9) k _ (omega arith) (part_refusal file k _ _ _ (omega arith) c.content_at.ensures c.in_err-read_block-2.ensures))

pub loop-number-preserved : goal.loop-number-preserved
loop-number-preserved c =
    let file = c.args.file.now in
    let n = get_or file 6 0 in
    let k = c.loop-number.number in
    sym (from_more file (n + 9) k (omega arith) (part_refusal file k _ _ _ (omega arith) c.content_at.ensures c.in_ok-read_block-2.ensures)) ∙ c.loop-number.invariant

pub returns : goal.returns
returns c =
    let file = c.args.file.now in
    let n = get_or file 6 0 in
    let long : length file ≡ 512 * (n + 9) = omega arith in
    others_decide file (sym c.if-not-length_fits.ensures) c.in_ok-read_block.ensures long ∙ sym c.loop-number.invariant
    ∙ from_none file (n + 9) c.loop-number.number (omega arith)
