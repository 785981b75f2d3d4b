use Rattle.std.proofs.Common.{rules, tests}
use Rattle.planfile.specs.Plans.{key_in}
use Rattle.planwriter.specs.Promises.{keys_in}
use Rattle.arrays.proofs.Made.{made}
use Rattle.planwriter.proofs.rewrite.keys_of.Goals as goal

pub returns : goal.returns
unfolding keys_in
returns c = made _ _ (key_in c.args.plan.now.file.now) (λ i y q called. search (rules, tests)) c.from_fn.result 1024 0 c.from_fn.ensures.items
