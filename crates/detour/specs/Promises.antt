-- What a change of the vias comes to: one pair's via stands as called for, and every other pair's is as before.
use Rattle.std.specs.Prelude.{◌≡◌, ℕ, Ok, Err, Option, Result}
use Rattle.detour.specs.declared.refusal.Refusal.{Refusal}
use Rattle.detour.specs.declared.vias.Vias.{Vias}
use Rattle.detour.specs.Vias.{via_for}

-- from v to w only the via of the pair from o to d was changed, to t or to none
pub record ViaSet (o d : ℕ) (t : Option ℕ) (v w : Vias) : Type 0 where
  pub this : via_for w o d ≡ t
  pub others : (a b : ℕ) → ((a ≡ o) × (b ≡ d) → ⊥) → via_for w a b ≡ via_for v a b

-- an accepted call makes its change, and a refused one none
abbrev pub Changed : Result (Unit {0}) Refusal → (Vias → Vias → Type 0) → Vias → Vias → Type 0
Changed (Ok x) Change v w = Change v w
Changed (Err e) Change v w = w ≡ v
