-- The answer is a number exactly where a route has that many segments.
use Rattle.std.proofs.Common.{◌≡◌, ℕ, zero, suc, ◌+◌, ◌-◌, ◌<◌, true, ◌⊎◌, List, length, Some, None, Ok, Option, Result, sym, refl, ap, ◌∙◌, inl, inr, arith}
use Rattle.map.specs.Sides.{segment}
use Rattle.routes.specs.declared.refusal.Refusal.{Refusal}
use Rattle.routes.specs.Routings.{Routing, follows}
use Rattle.routes.specs.Steps.{steps, route_check}
use Rattle.routes.specs.Routes.{Course, segments_from, Route, Exact}
use Rattle.routes.proofs.Forward.{steps_out, there, further}
use Rattle.routes.proofs.Turns.{turn}
use Rattle.routes.proofs.Turns.Turn.{refuses, arrives, moves}
use Rattle.routes.proofs.Limits.{Proper, counts, never, ok_not_err, ok_same}
use Rattle.routes.proofs.Faults.{refused_so, fault_refuses}
use Rattle.routes.proofs.Courses.{one, more, rest, segments_length, route_length, one_route}

-- a course that the steps from k on make, where they end at step r
record Made (s : Routing) (d k : ℕ) (h : Option ℕ) (t n r : ℕ) : Type 0 where
  len : ℕ
  total : k + len ≡ suc r
  course : Course s d t n len
  follow : follows s.rises h (segment (course.table 0) (course.side 0)) ≡ true

module _ (s : Routing) (o d : ℕ) where
  made : (j k : ℕ) (h : Option ℕ) (t n r : ℕ) → 0 < r → steps s o d j k h t n ≡ Ok r → Made s d k h t n r
  unfolding one more
  made zero k h t n r z e = let same = ok_same _ 0 r (steps_out s o d k h t n) e in absurd (omega arith)
  made (suc j) k h t n r z e =
      elim (turn s o d j k h t n) [
        | refuses why q y is ↦ absurd (ok_not_err _ r _ e is)
        | arrives side m u taken x is ↦
            let same = ok_same _ k r is e in
            record { len = 1; total = omega arith; course = one s d h t n side m u taken x; follow = taken.follow }
        | moves side m u taken x is ↦
            let on = made j (k + 1) (Some (segment t side)) u m r z (sym is ∙ e) in
            let total = on.total in
            record { len = suc on.len; total = omega arith; course = more s d h t n side m u taken on.len x on.course on.follow; follow = taken.follow }
      ]

  -- the steps follow the course to its end, or are spent
  follow_course : (j k : ℕ) (h : Option ℕ) (t n len : ℕ) → (c : Course s d t n len) → follows s.rises h (segment (c.table 0) (c.side 0)) ≡ true → (steps s o d j k h (c.table 0) (c.note 0) ≡ Ok 0) ⊎ (steps s o d j k h (c.table 0) (c.note 0) ≡ Ok (k + len - 1))
  unfolding rest
  follow_course zero k h t n len c f = inl (steps_out s o d k h _ _)
  follow_course (suc j) k h t n zero c f = let z = c.some in absurd (omega arith)
  follow_course (suc j) k h t n (suc zero) c f =
      let e : k ≡ k + 1 - 1 = omega arith in
      inr (there s o d j k h _ _ _ _ (c.side 0) (c.asks 0 (omega arith)) refl _ (c.leads 0 (omega arith)) (c.opens 0 (omega arith)) f c.ends ∙ ap Ok e)
  follow_course (suc j) k h t n (suc (suc len)) c f =
      let step = further s o d j k h _ _ _ _ (c.side 0) (c.asks 0 (omega arith)) refl _ (c.leads 0 (omega arith)) (c.opens 0 (omega arith)) f (c.not_sooner 1 (omega arith) (omega arith)) in
      let e : k + 1 + suc len - 1 ≡ k + suc (suc len) - 1 = omega arith in
      elim (follow_course j (k + 1) (Some (segment (c.table 0) (c.side 0))) _ _ (suc len) (rest s d t n len c) (c.rise 0 (omega arith))) [
        | inl x ↦ inl (step ∙ x)
        | inr x ↦ inr (step ∙ x ∙ ap Ok e)
      ]

  module _ (proper : Proper s) where
    -- the segments of the route that the answer counts
    passes : (len : ℕ) → route_check s o d ≡ Ok len → (qs : List ℕ) × Route s o d qs × (length qs ≡ len)
    passes len e =
        let found = made 961 1 None o (s.first o d) len (counts s proper o d len e).0 e in
        let total = found.total in
        let same : found.len ≡ len = omega arith in
        let route : Route s o d (segments_from found.course.table found.course.side 0 found.len) = record { len = found.len; course = found.course; is = refl } in
        (_, route, segments_length _ _ 0 found.len ∙ same)

    routed : (qs : List ℕ) → Route s o d qs → route_check s o d ≡ Ok (length qs)
    routed qs r =
        let c = r.course in
        let long = route_length s o d qs r in
        let e : 1 + r.len - 1 ≡ length qs = omega arith in
        elim (rw (c.starts, c.noted) at (follow_course 961 1 None o (s.first o d) r.len c refl)) [
          | inl x ↦ absurd (never s proper o d x)
          | inr x ↦ x ∙ ap Ok e
        ]

    once : (qs rs : List ℕ) → Route s o d qs → Route s o d rs → qs ≡ rs
    once qs rs a b =
        let same = ok_same _ _ _ (routed qs a) (routed rs b) in
        one_route s o d qs rs a b (sym (route_length s o d qs a) ∙ same ∙ route_length s o d rs b)

  pub exact : Proper s → (a : Result ℕ Refusal) → a ≡ route_check s o d → Exact s o d a
  exact proper a e = record {
    passes = λ len p. passes proper len (sym e ∙ p);
    routed = λ qs r. e ∙ routed proper qs r;
    refuses = λ x p. refused_so s o d x (sym e ∙ p);
    faulty = λ x f. e ∙ fault_refuses s o d proper x f;
    short = λ qs r. (counts s proper o d (length qs) (routed proper qs r)).1;
    once = once proper;
  }
