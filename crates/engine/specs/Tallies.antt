-- Which lines are counted as what, and how the counts are told.
use Rattle.std.specs.Prelude.{ℕ, ◌+◌, ◌-◌, ◌^◌, min, cond, List, ◌++◌, Ok, Err, codes, decimal, Result, ◌==◌}
use Rattle.engine.specs.declared.outcome.Outcome.{Outcome}
use Rattle.engine.specs.declared.outcome.Failure.{Failure}
use Rattle.engine.specs.declared.outcome.Failure.TheVariants.{Refused, Wrong}
use Rattle.engine.specs.declared.tally.Tally.{Tally}

-- a count that has reached the largest number of 64 bits stays there
abbrev pub one_more : ℕ → ℕ
one_more n = min (n + 1) (2 ^ 64 - 1)

abbrev pub none_yet : Tally
none_yet = record { calls = 0; refused = 0; errors = 0 }

-- a refused call is a call, and a bad line is none
abbrev pub counted : Tally → Result Outcome Failure → Tally
counted t (Ok o) = record { calls = one_more t.calls; refused = t.refused; errors = t.errors }
counted t (Err (Refused e)) = record { calls = one_more t.calls; refused = one_more t.refused; errors = t.errors }
counted t (Err (Wrong w)) = record { calls = t.calls; refused = t.refused; errors = one_more t.errors }

-- errors are told only where there are some
abbrev pub tally_text : Tally → List ℕ
tally_text t =
    cond (t.errors == 0) (codes "calls " ++ (decimal t.calls ++ (codes ", refused " ++ decimal t.refused)))
    (codes "calls " ++ (decimal t.calls ++ (codes ", refused " ++ (decimal t.refused ++ (codes ", errors " ++ decimal t.errors)))))
