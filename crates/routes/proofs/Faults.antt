-- The answer is a refusal exactly where that step is the first to fail.
use Rattle.std.proofs.Common.{◌≡◌, ℕ, zero, suc, ◌+◌, ◌<◌, ◌≤◌, true, ◌⊎◌, Some, None, Ok, Err, Option, Result, sym, refl, ap, ◌∙◌, subst, inl, inr, arith}
use Rattle.map.specs.declared.side.Side.{Side}
use Rattle.map.specs.declared.side.Side.TheVariants.{East}
use Rattle.map.specs.Sides.{segment}
use Rattle.routes.specs.declared.refusal.Reason.{Reason}
use Rattle.routes.specs.declared.refusal.Reason.TheVariants.{NoWay, NoSegment, Closed, NotRising}
use Rattle.routes.specs.declared.refusal.Refusal.{Refusal}
use Rattle.routes.specs.Routings.{Routing, follows}
use Rattle.routes.specs.Steps.{refused, steps, route_check}
use Rattle.routes.specs.Routes.{Stretch, held_after, Why, Fault}
use Rattle.routes.proofs.Forward.{steps_out, no_way, no_segment, closed, not_rising, further}
use Rattle.routes.proofs.Turns.{Taken, turn}
use Rattle.routes.proofs.Turns.Turn.{refuses, arrives, moves}
use Rattle.routes.proofs.Limits.{Proper, never, ok_not_err}

-- x, and then what f has
abbrev pub after : {X : Type 0} → X → (ℕ → X) → ℕ → X
after x f zero = x
after x f (suc k) = f k

err_same : (r : Result ℕ Refusal) (x y : Refusal) → r ≡ Err x → r ≡ Err y → x ≡ y
err_same r x y p q = cc

module _ (s : Routing) (d : ℕ) where
  none : (t n : ℕ) → Stretch s d t n 0
  none t n = record {
    table = λ _. t;
    note = λ _. n;
    side = λ _. East;
    starts = refl;
    noted = refl;
    asks = λ k l. absurd (omega arith);
    leads = λ k l. absurd (omega arith);
    opens = λ k l. absurd (omega arith);
    rise = λ k l. absurd (omega arith);
    not_there = λ k z l. absurd (omega arith);
  }

  module _ (h : Option ℕ) (t n : ℕ) (side : Side) (m u : ℕ) (taken : Taken s d h t n side m u) where
    -- one segment more in front
    more : (len : ℕ) → (u ≡ d → ⊥) → (c : Stretch s d u m len) → (0 < len → s.rises (segment t side) (segment (c.table 0) (c.side 0)) ≡ true) → Stretch s d t n (suc len)
    more len x c up = record {
      table = after t c.table;
      note = after n c.note;
      side = after side c.side;
      starts = refl;
      noted = refl;
      asks = elim [ zero ↦ λ l. taken.asks ∙ ap (λ y. Some (side, y)) (sym c.noted) | suc k ↦ λ l. c.asks k (omega arith) ];
      leads = elim [ zero ↦ λ l. taken.leads ∙ ap Some (sym c.starts) | suc k ↦ λ l. c.leads k (omega arith) ];
      opens = elim [ zero ↦ λ l. taken.opens | suc k ↦ λ l. c.opens k (omega arith) ];
      rise = elim [ zero ↦ λ l. up (omega arith) | suc k ↦ λ l. c.rise k (omega arith) ];
      not_there = elim [
        | zero ↦ λ z l. absurd (omega arith)
        | suc k ↦ λ z l. sooner k (omega arith)
      ];
    }
      where
        sooner : (k : ℕ) → k ≤ len → c.table k ≡ d → ⊥
        sooner zero l e = x (sym c.starts ∙ e)
        sooner (suc k) l e = c.not_there (suc k) (omega arith) l e

  -- without its first segment
  rest : (t n len : ℕ) → (c : Stretch s d t n (suc len)) → Stretch s d (c.table 1) (c.note 1) len
  rest t n len c = record {
    table = λ k. c.table (suc k);
    note = λ k. c.note (suc k);
    side = λ k. c.side (suc k);
    starts = refl;
    noted = refl;
    asks = λ k l. c.asks (suc k) (omega arith);
    leads = λ k l. c.leads (suc k) (omega arith);
    opens = λ k l. c.opens (suc k) (omega arith);
    rise = λ k l. c.rise (suc k) (omega arith);
    not_there = λ k z l. c.not_there (suc k) (omega arith) (omega arith);
  }

abbrev segs : {s : Routing} {d t n len : ℕ} → Stretch s d t n len → ℕ → ℕ
segs c k = segment (c.table k) (c.side k)

-- the segment held after k segments, where h was held before them
abbrev held_from : Option ℕ → (ℕ → ℕ) → ℕ → Option ℕ
held_from h seg zero = h
held_from h seg (suc k) = Some (seg k)

held_first : (table : ℕ → ℕ) (side : ℕ → Side) (k : ℕ) → held_from None (λ i. segment (table i) (side i)) k ≡ held_after table side k
held_first table side zero = refl
held_first table side (suc k) = refl

-- a fault of the steps from k on, with h held
record From (s : Routing) (o d k : ℕ) (h : Option ℕ) (t n : ℕ) (e : Refusal) : Type 0 where
  len : ℕ
  reason : Reason
  wanted : Option ℕ
  stretch : Stretch s d t n len
  follow : 0 < len → follows s.rises h (segs stretch 0) ≡ true
  why : Why s d (held_from h (segs stretch) len) (stretch.table len) (stretch.note len) reason wanted
  is : e ≡ refused reason o d (k + len) (held_from h (segs stretch) len) wanted

module _ (s : Routing) (o d : ℕ) where
  module _ (k : ℕ) (h : Option ℕ) (t n : ℕ) (e : Refusal) (side : Side) (m u : ℕ) (taken : Taken s d h t n side m u) (x : u ≡ d → ⊥) where
    -- one step earlier
    from_more : From s o d (k + 1) (Some (segment t side)) u m e → From s o d k h t n e
    unfolding more
    from_more f =
        record {
          len = suc f.len;
          reason = f.reason;
          wanted = f.wanted;
          stretch = more s d h t n side m u taken f.len x f.stretch f.follow;
          follow = λ _. taken.follow;
          why = subst (λ y. Why s d y (f.stretch.table f.len) (f.stretch.note f.len) f.reason f.wanted) (held f.len f.stretch) f.why;
          is = f.is ∙ counts ∙ ap (λ y. refused f.reason o d (k + suc f.len) y f.wanted) (held f.len f.stretch);
        }
      where
        held : (len : ℕ) (c : Stretch s d u m len) → held_from (Some (segment t side)) (segs c) len ≡ Some (segment (after t c.table len) (after side c.side len))
        held zero c = refl
        held (suc len) c = refl

        counts : refused f.reason o d (k + 1 + f.len) (held_from (Some (segment t side)) (segs f.stretch) f.len) f.wanted ≡ refused f.reason o d (k + suc f.len) (held_from (Some (segment t side)) (segs f.stretch) f.len) f.wanted
        counts = let same : k + 1 + f.len ≡ k + suc f.len = omega arith in ap (λ y. refused f.reason o d y (held_from (Some (segment t side)) (segs f.stretch) f.len) f.wanted) same

  from : (j k : ℕ) (h : Option ℕ) (t n : ℕ) (e : Refusal) → steps s o d j k h t n ≡ Err e → From s o d k h t n e
  unfolding none
  from zero k h t n e p = absurd (ok_not_err _ 0 e (steps_out s o d k h t n) p)
  from (suc j) k h t n e p =
      elim (turn s o d j k h t n) [
        | refuses why q y is ↦
            let same : k ≡ k + 0 = omega arith in
            record { len = 0; reason = why; wanted = q; stretch = none s d t n; follow = λ l. absurd (omega arith); why = y; is = err_same _ e _ p is ∙ ap (λ v. refused why o d v h q) same }
        | arrives side m u taken x is ↦ absurd (ok_not_err _ k e is p)
        | moves side m u taken x is ↦ from_more k h t n e side m u taken x (from j (k + 1) (Some (segment t side)) u m e (sym is ∙ p))
      ]

  pub refused_so : (e : Refusal) → route_check s o d ≡ Err e → Fault s o d e
  refused_so e p =
      let f = from 961 1 None o (s.first o d) e p in
      let same : 1 + f.len ≡ suc f.len = omega arith in
      let held = held_first f.stretch.table f.stretch.side f.len in
      record {
        len = f.len;
        reason = f.reason;
        wanted = f.wanted;
        stretch = f.stretch;
        why = subst (λ y. Why s d y (f.stretch.table f.len) (f.stretch.note f.len) f.reason f.wanted) held f.why;
        is = f.is ∙ ap (λ v. refused f.reason o d v (held_from None (segs f.stretch) f.len) f.wanted) same ∙ ap (λ y. refused f.reason o d (suc f.len) y f.wanted) held;
      }

  at_end : (j k : ℕ) (h : Option ℕ) (t n : ℕ) (why : Reason) (q : Option ℕ) → Why s d h t n why q → steps s o d (suc j) k h t n ≡ Err (refused why o d k h q)
  at_end j k h t n NoWay q y = rw y.1 (no_way s o d j k h t n y.0)
  at_end j k h t n NoSegment q y = rw y.0.is (no_segment s o d j k h t n _ _ y.0.side y.0.asks refl y.1)
  at_end j k h t n Closed q y = rw y.0.is (closed s o d j k h t n _ _ y.0.side y.0.asks refl y.1 y.2 y.3)
  at_end j k h t n NotRising q y = rw y.0.is (not_rising s o d j k h t n _ _ y.0.side y.0.asks refl y.1 y.2 y.3 y.4)

  -- the steps follow the stretch to its end, where they are refused, or are spent
  follow_stretch : (j k : ℕ) (h : Option ℕ) (t n len : ℕ) (why : Reason) (q : Option ℕ) → (c : Stretch s d t n len) → (0 < len → follows s.rises h (segs c 0) ≡ true) → Why s d (held_from h (segs c) len) (c.table len) (c.note len) why q → (steps s o d j k h (c.table 0) (c.note 0) ≡ Ok 0) ⊎ (steps s o d j k h (c.table 0) (c.note 0) ≡ Err (refused why o d (k + len) (held_from h (segs c) len) q))
  unfolding rest
  follow_stretch zero k h t n len why q c f y = inl (steps_out s o d k h _ _)
  follow_stretch (suc j) k h t n zero why q c f y =
      let same : k ≡ k + 0 = omega arith in
      inr (at_end j k h (c.table 0) (c.note 0) why q y ∙ ap (λ v. Err (refused why o d v h q)) same)
  follow_stretch (suc j) k h t n (suc zero) why q c f y =
      let step = further s o d j k h _ _ _ _ (c.side 0) (c.asks 0 (omega arith)) refl _ (c.leads 0 (omega arith)) (c.opens 0 (omega arith)) (f (omega arith)) (c.not_there 1 (omega arith) (omega arith)) in
      let same : k + 1 + 0 ≡ k + 1 = omega arith in
      elim (follow_stretch j (k + 1) (Some (segs c 0)) _ _ 0 why q (rest s d t n 0 c) (λ l. absurd (omega arith)) y) [
        | inl x ↦ inl (step ∙ x)
        | inr x ↦ inr (step ∙ x ∙ ap (λ v. Err (refused why o d v (Some (segs c 0)) q)) same)
      ]
  follow_stretch (suc j) k h t n (suc (suc len)) why q c f y =
      let step = further s o d j k h _ _ _ _ (c.side 0) (c.asks 0 (omega arith)) refl _ (c.leads 0 (omega arith)) (c.opens 0 (omega arith)) (f (omega arith)) (c.not_there 1 (omega arith) (omega arith)) in
      let same : k + 1 + suc len ≡ k + suc (suc len) = omega arith in
      elim (follow_stretch j (k + 1) (Some (segs c 0)) _ _ (suc len) why q (rest s d t n (suc len) c) (λ l. c.rise 0 (omega arith)) y) [
        | inl x ↦ inl (step ∙ x)
        | inr x ↦ inr (step ∙ x ∙ ap (λ v. Err (refused why o d v (Some (segs c (suc len))) q)) same)
      ]

  pub fault_refuses : Proper s → (e : Refusal) → Fault s o d e → route_check s o d ≡ Err e
  fault_refuses proper e f =
      let c = f.stretch in
      let same : 1 + f.len ≡ suc f.len = omega arith in
      let held = held_first c.table c.side f.len in
      let why = subst (λ y. Why s d y (c.table f.len) (c.note f.len) f.reason f.wanted) (sym held) f.why in
      elim (rw (c.starts, c.noted) at (follow_stretch 961 1 None o (s.first o d) f.len f.reason f.wanted c (λ l. refl) why)) [
        | inl x ↦ absurd (never s proper o d x)
        | inr x ↦
            x
            ∙ ap (λ v. Err (refused f.reason o d v (held_from None (segs c) f.len) f.wanted)) same
            ∙ ap (λ y. Err (refused f.reason o d (suc f.len) y f.wanted)) held
            ∙ ap Err (sym f.is)
      ]
