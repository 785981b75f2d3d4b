use Rattle.std.proofs.Common.{refl}
use Rattle.examples.proofs.Holds.{all_hold}
use Rattle.examples.proofs.table.example_count.Goals as goal

pub returns : goal.returns
returns c = record { counts = refl; hold = all_hold }
