-- The loop of the check of a route.
use Rattle.std.proofs.Common.{◌≡◌, ℕ, zero, suc, ◌+◌, ◌-◌, ◌≤◌, Bool, true, false, Some, None, Ok, Err, Option, Result, sym, ap, ◌∙◌, inl, inr, arith}
use Rattle.std.proofs.lemmas.Bool.{cases_lt}
use Rattle.map.specs.declared.side.Side.{Side}
use Rattle.map.specs.Sides.{segment}
use Rattle.map.specs.Layouts.{head_in, open_in}
use Rattle.routes.specs.declared.refusal.Reason.{Reason}
use Rattle.routes.specs.declared.refusal.Refusal.{Refusal}
use Rattle.routes.specs.declared.refusal.Reason.TheVariants.{NoWay, NoSegment, Closed, NotRising}
use Rattle.routes.specs.declared.route.Held.{Held}
use Rattle.routes.specs.Routings.{Routing, by_key, follows}
use Rattle.routes.specs.Steps.{refused, steps, route_check}
use Rattle.routes.specs.Holdings.{segment_of, may_follow}
use Rattle.routes.proofs.Forward as forward
use Rattle.routes.proofs.Limits.{Proper, never}

-- the key kept is that of the segment held
abbrev pub KeyKept : {K : Type 0} → (ℕ → K) → Option (Held K) → Type 0
KeyKept key None = Unit {0}
KeyKept key (Some h) = h.key ≡ key h.segment

-- asking the key that is kept tells what asking both keys would
pub kept_follows : {K : Type 0} (before : K → K → Bool) (key : ℕ → K) (held : Option (Held K)) (q : ℕ) (k : K) (b : Bool) → KeyKept key held → k ≡ key q → may_follow before held k ≡ b → follows (by_key before key) (segment_of held) q ≡ b
kept_follows before key None q k b kept is e = e
kept_follows before key (Some h) q k b kept is e = sym (ap (λ x. before x k) kept ∙ ap (before (key h.segment)) is) ∙ e

-- a refusal that names the segment held
pub named : (x : Refusal) (why : Reason) (o d k : ℕ) (g h q : Option ℕ) → g ≡ h → x ≡ refused why o d k g q → ◌≡◌ {A = Result ℕ Refusal} (Err x) (Err (refused why o d k h q))
named x why o d k g h q same e = ap Err (e ∙ ap (λ y. refused why o d k y q) same)

-- step k is at table t with note n, and the steps from there on decide
pub record Sofar (s : Routing) (o d k : ℕ) (h : Option ℕ) (t n : ℕ) : Type 0 where
  pub began : 1 ≤ k
  pub short : k ≤ 961
  pub rest : steps s o d (962 - k) k h t n ≡ route_check s o d

module _ (s : Routing) (o d : ℕ) where
  module _ (k : ℕ) (h : Option ℕ) (t n : ℕ) (so : Sofar s o d k h t n) where
    next : steps s o d (suc (961 - k)) k h t n ≡ route_check s o d
    next =
        let short = so.short in
        let e : suc (961 - k) ≡ 962 - k = omega arith in
        ap (λ j. steps s o d j k h t n) e ∙ so.rest

    pub no_way : s.way t d n ≡ None → Err (refused NoWay o d k h None) ≡ route_check s o d
    no_way e = sym (forward.no_way s o d (961 - k) k h t n e) ∙ next

    module _ (q m : ℕ) (side : Side) (e : s.way t d n ≡ Some (side, m)) (is : q ≡ segment t side) where
      pub no_segment : head_in s.map q ≡ None → Err (refused NoSegment o d k h (Some q)) ≡ route_check s o d
      no_segment f = sym (forward.no_segment s o d (961 - k) k h t n q m side e is f) ∙ next

      module _ (u : ℕ) (f : head_in s.map q ≡ Some u) where
        pub closed : open_in s.map q ≡ false → Err (refused Closed o d k h (Some q)) ≡ route_check s o d
        closed c = sym (forward.closed s o d (961 - k) k h t n q m side e is u f c) ∙ next

        module _ (c : open_in s.map q ≡ true) where
          pub not_rising : follows s.rises h q ≡ false → Err (refused NotRising o d k h (Some q)) ≡ route_check s o d
          not_rising a = sym (forward.not_rising s o d (961 - k) k h t n q m side e is u f c a) ∙ next

          pub there : follows s.rises h q ≡ true → u ≡ d → Ok k ≡ route_check s o d
          there a x = sym (forward.there s o d (961 - k) k h t n q m side e is u f c a x) ∙ next

          pub on : Proper s → follows s.rises h q ≡ true → (u ≡ d → ⊥) → Sofar s o d (k + 1) (Some q) u m
          on proper a x =
              let began = so.began in
              let short = so.short in
              let here : steps s o d (961 - k) (k + 1) (Some q) u m ≡ route_check s o d = sym (forward.further s o d (961 - k) k h t n q m side e is u f c a x) ∙ next in
              let less : k + 1 ≤ 961 =
              elim (cases_lt k 961) [
                | inl l ↦ omega arith
                | inr l ↦
                    let none : 961 - k ≡ zero = omega arith in
                    absurd (never s proper o d (sym here ∙ ap (λ j. steps s o d j (k + 1) (Some q) u m) none ∙ forward.steps_out s o d (k + 1) (Some q) u m))
              ] in
              let same : 962 - (k + 1) ≡ 961 - k = omega arith in
              record { began = omega arith; short = less; rest = ap (λ j. steps s o d j (k + 1) (Some q) u m) same ∙ here }
