use Rattle.std.proofs.Common.{◌≡◌, ◌-◌, get_or}
use Rattle.planfile.specs.Plans.{seek, place_of}
use Rattle.planfile.proofs.plan.WrittenPlan.place_of.Given as goal

-- the stops that are left decide
abbrev pub invariant-loop-i : goal.invariant-loop-i
invariant-loop-i l = seek l.self.file.now l.table (get_or l.self.file.now 6 0 - l.i) l.i ≡ place_of l.self.file.now l.table
