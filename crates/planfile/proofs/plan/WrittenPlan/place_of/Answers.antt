use Rattle.std.proofs.Common.{◌≡◌, ◌+◌, ◌<◌, ◌≤◌, get_or, sym, ◌∙◌, arith, rules}
use Rattle.planfile.proofs.Searches.{seek_here, seek_on, seek_none}
use Rattle.planfile.proofs.plan.WrittenPlan.place_of.Goals as goal

pub returns-then-byte-table : goal.returns-then-byte-table
returns-then-byte-table c =
    let file = c.args.self.now.file.now in
    let i = c.loop-i.i in
    let within : i < get_or file 6 0 = omega arith in
    let here : get_or file (8 + i) 0 ≡ c.args.table = search rules in
    sym (seek_here file c.args.table (get_or file 6 0) i within here) ∙ c.loop-i.invariant

pub loop-i-preserved : goal.loop-i-preserved
loop-i-preserved c =
    let file = c.args.self.now.file.now in
    let i = c.loop-i.i in
    let within : i < get_or file 6 0 = omega arith in
    sym (seek_on file c.args.table (get_or file 6 0) i within (λ e. c.if-byte-table.false (search rules))) ∙ c.loop-i.invariant

pub returns : goal.returns
returns c =
    let file = c.args.self.now.file.now in
    let i = c.loop-i.i in
    let past : get_or file 6 0 ≤ i = omega arith in
    sym (seek_none file c.args.table (get_or file 6 0) i past) ∙ c.loop-i.invariant
