-- One step of the written answer, forward.
use Rattle.std.proofs.Common.{◌≡◌, ℕ, zero, suc, ◌+◌, true, false, Some, None, Ok, Err, Option, refl, ◌∙◌}
use Rattle.std.proofs.lemmas.Bool.{eq-eqb, ne_eqb}
use Rattle.map.specs.declared.side.Side.{Side}
use Rattle.map.specs.Sides.{segment}
use Rattle.map.specs.Layouts.{head_in, open_in}
use Rattle.routes.specs.declared.refusal.Reason.TheVariants.{NoWay, NoSegment, Closed, NotRising}
use Rattle.routes.specs.Routings.{Routing, follows}
use Rattle.routes.specs.Steps.{refused, wanting, asking, steps}

module _ (s : Routing) (o d : ℕ) where
  pub steps_out : (k : ℕ) (h : Option ℕ) (t n : ℕ) → steps s o d zero k h t n ≡ Ok 0
  unfolding steps
  steps_out k h t n = refl

  steps_on_lem : (j k : ℕ) (h : Option ℕ) (t n : ℕ) → steps s o d (suc j) k h t n ≡ asking s o d k h t (s.way t d n) (λ q u m. steps s o d j (k + 1) (Some q) u m)
  unfolding steps
  steps_on_lem j k h t n = refl

  module _ (j k : ℕ) (h : Option ℕ) (t n : ℕ) where
    pub no_way : s.way t d n ≡ None → steps s o d (suc j) k h t n ≡ Err (refused NoWay o d k h None)
    no_way e = steps_on_lem j k h t n ∙ rw e

    module _ (q m : ℕ) (side : Side) (e : s.way t d n ≡ Some (side, m)) (is : q ≡ segment t side) where
      wants : steps s o d (suc j) k h t n ≡ wanting s o d k h q (head_in s.map q) (λ u. steps s o d j (k + 1) (Some q) u m)
      wants = steps_on_lem j k h t n ∙ rw (e, ← is)

      pub no_segment : head_in s.map q ≡ None → steps s o d (suc j) k h t n ≡ Err (refused NoSegment o d k h (Some q))
      no_segment f = wants ∙ rw f

      module _ (u : ℕ) (f : head_in s.map q ≡ Some u) where
        pub closed : open_in s.map q ≡ false → steps s o d (suc j) k h t n ≡ Err (refused Closed o d k h (Some q))
        closed c = wants ∙ rw (f, c)

        module _ (c : open_in s.map q ≡ true) where
          pub not_rising : follows s.rises h q ≡ false → steps s o d (suc j) k h t n ≡ Err (refused NotRising o d k h (Some q))
          not_rising a = wants ∙ rw (f, c, a)

          pub there : follows s.rises h q ≡ true → u ≡ d → steps s o d (suc j) k h t n ≡ Ok k
          there a x = wants ∙ rw (f, c, a, eq-eqb u d x)

          pub further : follows s.rises h q ≡ true → (u ≡ d → ⊥) → steps s o d (suc j) k h t n ≡ steps s o d j (k + 1) (Some q) u m
          further a x = wants ∙ rw (f, c, a, ne_eqb u d x)
