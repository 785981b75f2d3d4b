-- The way over a tree, case by case.
use Rattle.std.proofs.Common.{◌≡◌, ℕ, true, false, None, Option, ap, ◌∙◌}
use Rattle.std.proofs.lemmas.Bool.{eq-eqb, ne_eqb, cond-true, cond-false}
use Rattle.map.specs.declared.side.Side.{Side}
use Rattle.links.specs.Ways.{child_on, towards, one_group, noted, way_over}

module _ (root : ℕ → Option ℕ) (side : ℕ → Option Side) (parent : ℕ → Option ℕ) (t d : ℕ) where
  pub over_there : t ≡ d → way_over root side parent t d ≡ None
  unfolding way_over
  over_there e = cond-true _ _ _ (eq-eqb t d e)

  pub over_apart : (t ≡ d → ⊥) → one_group (root t) (root d) ≡ false → way_over root side parent t d ≡ None
  unfolding way_over
  over_apart ne e = cond-false _ _ _ (ne_eqb t d ne) ∙ cond-false _ _ _ e

  pub over_on : (o : Option Side) → (t ≡ d → ⊥) → one_group (root t) (root d) ≡ true → towards side t (child_on parent 255 t d) ≡ o → way_over root side parent t d ≡ noted o
  unfolding way_over
  over_on o ne e f = cond-false _ _ _ (ne_eqb t d ne) ∙ cond-true _ _ _ e ∙ ap noted f
