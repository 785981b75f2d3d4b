use Rattle.map.specs.Layouts.{layout}
use Rattle.planwriter.proofs.Again.{outcome_again, later_again, bytes_again}
use Rattle.planwriter.proofs.rewrite.rewrite.Goals as goal

pub returns : goal.returns
returns c =
    let floor = layout c.args.map.now in
    let file = c.args.plan.now.file.now in
    let keys = c.keys_of-keys.result in
    let was = c.args.buffer.now in
    let is = c.write.new.buffer in
    let own = c.keys_of-keys.ensures in
    let told = c.write.ensures in
    record {
      outcome = outcome_again floor file keys was is own c.write.result _ told.outcome;
      later = later_again floor file keys was is own c.write.result told.later;
      again = bytes_again floor file keys was is own c.write.result told.later told.again;
    }
