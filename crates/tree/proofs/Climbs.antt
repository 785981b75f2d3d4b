-- The loop that climbs from the destination, step by step.
use Rattle.std.proofs.Common.{◌≡◌, ℕ, ◌+◌, ◌-◌, ◌<◌, ◌≤◌, Some, None, Option, sym, ap, ◌∙◌, arith}
use Rattle.links.specs.Ways.{child_on}
use Rattle.links.proofs.Lines.{child_here, child_on_lem, child_top, child_none}

-- after i steps the climb is at x
abbrev pub Climbed : (ℕ → Option ℕ) → ℕ → ℕ → ℕ → ℕ → Type 0
Climbed parent t d i x = child_on parent (255 - i) t x ≡ child_on parent 255 t d

module _ (parent : ℕ → Option ℕ) (t d i x : ℕ) (c : Climbed parent t d i x) where
  pub climbed_found : (p : ℕ) → i < 255 → parent x ≡ Some p → p ≡ t → Some x ≡ child_on parent 255 t d
  climbed_found p l e f = sym (child_here parent (255 - i) t x p (omega arith) e f) ∙ c

  pub climbed_top : parent x ≡ None → None ≡ child_on parent 255 t d
  climbed_top e = sym (child_top parent (255 - i) t x e) ∙ c

  pub climbed_more : (p : ℕ) → i < 255 → parent x ≡ Some p → (p ≡ t → ⊥) → Climbed parent t d (i + 1) p
  climbed_more p l e h =
      let less : 255 - (i + 1) ≡ 255 - i - 1 = omega arith in
      ap (λ j. child_on parent j t p) less ∙ sym (child_on_lem parent (255 - i) t x p (omega arith) e h) ∙ c

  pub climbed_all : 255 ≤ i → None ≡ child_on parent 255 t d
  climbed_all l = sym (child_none parent (255 - i) t x (omega arith)) ∙ c

-- each step of the loop
pub ruleset climbs = (climbed_found, climbed_top, climbed_more, climbed_all)
