-- Counting the tables that have no root yet.
use Rattle.std.proofs.Common.{◌≡◌, ℕ, zero, suc, ◌+◌, ◌<◌, List, [], ◌∷◌, length, get_or, set, replicate, Some, None, Option, sym, refl, arith}
use Rattle.links.proofs.Chains.{none_some}
use Rattle.tree.specs.declared.growth.Mark.{Mark}
use Rattle.tree.specs.Growths.{marked_root, missing}

pub missing_all : (n : ℕ) → missing (replicate n None) ≡ n
missing_all zero = refl
missing_all (suc n) = omega (arith, missing_all n)

pub missing_set : (xs : List (Option Mark)) (i r e : ℕ) → i < length xs → marked_root (get_or xs i None) ≡ None → missing (set xs i (Some (record { root = r; depth = e }))) + 1 ≡ missing xs
missing_set [] i r e h n = absurd (omega arith)
missing_set (None ∷ xs) zero r e h n = omega arith
missing_set (Some x ∷ xs) zero r e h n = absurd (none_some x.root (sym n))
missing_set (x ∷ xs) (suc i) r e h n = omega (arith, missing_set xs i r e (omega arith) n)

abbrev unmarked : Option Mark
unmarked = None

pub unmarked_at : (n i : ℕ) → get_or (replicate n unmarked) i unmarked ≡ unmarked
unmarked_at zero i = refl
unmarked_at (suc n) zero = refl
unmarked_at (suc n) (suc i) = unmarked_at n i
