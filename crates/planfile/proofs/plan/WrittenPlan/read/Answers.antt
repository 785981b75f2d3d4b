use Rattle.std.proofs.Common.{refl}
use Rattle.std.proofs.lemmas.Result.{err_from_is_err_and}
use Rattle.planfile.proofs.Verdicts.{none_some}
use Rattle.planfile.proofs.Judgements.{of_layout, plan_not_refused, first_fault}
use Rattle.planfile.proofs.Contents.{holds, one_byte_refused}
use Rattle.planfile.proofs.Changes.{named}
use Rattle.planfile.proofs.plan.WrittenPlan.read.Goals as goal

pub returns : goal.returns
returns c =
    let file = c.args.file.now in
    let plan = of_layout file c.in_ok-judge.ensures in
    record {
      outcome = (c.in_ok-judge.ensures, refl);
      layout = plan;
      told = holds file plan (λ k. (c.type_inv.file k).fits);
      one_byte = one_byte_refused file plan (λ k. (c.type_inv.file k).fits);
      one_named = λ i other bytes only. named file plan (λ k. (c.type_inv.file k).fits) i other bytes only;
    }

pub returns-in_err-judge : goal.returns-in_err-judge
returns-in_err-judge c =
    let file = c.args.file.now in
    let p = err_from_is_err_and c.from_residual.result c.from_residual.ensures.1 in
    let refused = c.in_err-judge.ensures in
    rw (p.1, p.2)
    (record {
      outcome = refused;
      layout = λ plan. none_some _ _ (plan_not_refused file plan) refused;
      told = first_fault file _ refused;
      one_byte = tt;
      one_named = tt;
    })
