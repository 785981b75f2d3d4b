-- The written answer of the check: pair by pair, and the first that is refused refuses all.
use Rattle.std.specs.Prelude.{ℕ, List, [], ◌∷◌, Ok, Err, Result}
use Rattle.routes.specs.declared.refusal.Refusal.{Refusal}
use Rattle.routes.specs.Routings.{Routing}
use Rattle.routes.specs.Steps.{route_check}
use Rattle.plancheck.specs.declared.pass.Pass.{Pass}
use Rattle.plancheck.specs.Pairs.{wanted_pairs}
use Rattle.plancheck.specs.Totals.{no_pairs, counting}

abbrev pub counted : Pass → Result ℕ Refusal → (Pass → Result Pass Refusal) → Result Pass Refusal
counted a (Ok n) on = on (counting a n)
counted a (Err e) on = Err e

-- some pairs, counted onto a
abbrev pub check_pairs : Routing → Pass → List (ℕ × ℕ) → Result Pass Refusal
check_pairs s a [] = Ok a
check_pairs s a (p ∷ ps) = counted a (route_check s p.0 p.1) (λ b. check_pairs s b ps)

abbrev pub plan_check : Routing → Result Pass Refusal
plan_check s = check_pairs s no_pairs (wanted_pairs s.map)
