-- Some pairs checked, and then more.
use Rattle.std.proofs.Common.{◌≡◌, ℕ, List, [], ◌∷◌, ◌++◌, Ok, Err, Result, refl}
use Rattle.routes.specs.declared.refusal.Refusal.{Refusal}
use Rattle.routes.specs.Routings.{Routing}
use Rattle.routes.specs.Steps.{route_check}
use Rattle.plancheck.specs.declared.pass.Pass.{Pass}
use Rattle.plancheck.specs.Totals.{counting}
use Rattle.plancheck.specs.Plans.{counted, check_pairs}

abbrev pub and_then : Result Pass Refusal → (Pass → Result Pass Refusal) → Result Pass Refusal
and_then (Ok a) on = on a
and_then (Err e) on = Err e

module _ (s : Routing) (qs : List (ℕ × ℕ)) where
  join_one : (a : Pass) (ps : List (ℕ × ℕ)) → ((b : Pass) → check_pairs s b (ps ++ qs) ≡ and_then (check_pairs s b ps) (λ c. check_pairs s c qs)) → (r : Result ℕ Refusal) → counted a r (λ b. check_pairs s b (ps ++ qs)) ≡ and_then (counted a r (λ b. check_pairs s b ps)) (λ c. check_pairs s c qs)
  join_one a ps ih (Ok n) = ih (counting a n)
  join_one a ps ih (Err e) = refl

  pub join : (ps : List (ℕ × ℕ)) (a : Pass) → check_pairs s a (ps ++ qs) ≡ and_then (check_pairs s a ps) (λ c. check_pairs s c qs)
  join [] a = refl
  join (p ∷ ps) a = join_one a ps (join ps) (route_check s p.0 p.1)
