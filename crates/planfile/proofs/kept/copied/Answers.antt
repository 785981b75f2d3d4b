use Rattle.planfile.proofs.Copies.{is_copy, same_copy}
use Rattle.planfile.proofs.kept.copied.Goals as goal

pub returns-clause-is : goal.returns-clause-is
returns-clause-is c = is_copy c.args.file.now _ c.min-count.result c.min-count.ensures c.copy_from_slice.ensures.after

pub returns-clause-same : goal.returns-clause-same
returns-clause-same c = same_copy c.args.file.now _ c.min-count.result c.min-count.ensures c.copy_from_slice.ensures.after
