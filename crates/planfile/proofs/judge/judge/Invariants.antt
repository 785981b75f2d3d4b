use Rattle.std.proofs.Common.{◌≡◌, ◌+◌, ◌-◌, get_or}
use Rattle.planfile.specs.Outcomes.{first_from}
use Rattle.planfile.proofs.judge.judge.Given as goal

-- the blocks that are left decide
abbrev pub invariant-loop-number : goal.invariant-loop-number
invariant-loop-number l = first_from l.file (get_or l.file 6 0 + 9 - l.number) l.number ≡ first_from l.file (get_or l.file 6 0 + 8) 1
