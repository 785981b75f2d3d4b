-- The walk of a remaining route counts its segments.
use Rattle.std.proofs.Common.{◌≡◌, ℕ, zero, suc, ◌+◌, ◌-◌, ◌<◌, ◌≤◌, Bool, true, false, eqb, List, [], ◌∷◌, length, Some, None, Ok, Err, Option, Result, sym, refl, ap, ◌∙◌, subst, arith, eqb-true}
use borrow.Author.Tests.{eqb-false}
use Rattle.std.proofs.lemmas.Bool.{eq-eqb, ne_eqb}
use Rattle.trays.specs.declared.tray.Tray.{Tray}
use Rattle.trays.specs.declared.trays.Trays.{Trays}
use Rattle.trays.specs.declared.refusal.Refusal.{Refusal}
use Rattle.trays.specs.declared.refusal.Refusal.TheVariants.{NoSegment, TooLong}
use Rattle.trays.specs.Sites.{Site}
use Rattle.trays.specs.Outcomes.{opened, found, asked, next, look_outcome}
use Rattle.trays.specs.Lefts.{walked, there, headed, walk, left_of, left_outcome, Onward, LeftTells}
use Rattle.trays.proofs.Ahead.{Ahead}

ok_same : {A : Type 0} (r : Result A Refusal) (x y : A) → r ≡ Ok x → r ≡ Ok y → x ≡ y
ok_same r x y p q = cc

ok_not_err : {A : Type 0} (r : Result A Refusal) (x : A) (e : Refusal) → r ≡ Ok x → r ≡ Err e → ⊥
ok_not_err r x e p q = cc

module _ (s : Site) where
  -- what a segment to go on to has shown
  pub record Found (t d n q m : ℕ) : Type 0 where
    pub wants : s.wants t d n ≡ Some (q, m)
    pub opens : s.opens q ≡ true

  module _ (h t d n : ℕ) where
    abbrev Finds : Result (ℕ × ℕ) Refusal → Type 0
    Finds (Ok a) = Found t d n a.0 a.1
    Finds (Err r) = Unit {0}

    of_opened : (a : ℕ × ℕ) → s.wants t d n ≡ Some a → (c : Bool) → s.opens a.0 ≡ c → Finds (opened h a c)
    of_opened a w true o = record { wants = w; opens = o }
    of_opened a w false o = tt

    of_found : (a : ℕ × ℕ) → s.wants t d n ≡ Some a → (x : Option ℕ) → Finds (found h a (s.opens a.0) x)
    of_found a w (Some u) = of_opened a w _ refl
    of_found a w None = tt

    of_asked : (w : Option (ℕ × ℕ)) → s.wants t d n ≡ w → Finds (asked s h w)
    of_asked None e = tt
    of_asked (Some a) e = of_found a e _

    pub finds : Finds (next s h t d n)
    finds = of_asked _ refl

  module _ (d : ℕ) where
    walk_last : (k p n : ℕ) → walk s d zero k p n ≡ headed (s.head p) d k (λ u. Err TooLong)
    unfolding walk
    walk_last k p n = refl

    walk_on : (j k p n : ℕ) → walk s d (suc j) k p n ≡ headed (s.head p) d k (λ u. walked (next s p u d n) (λ q m. walk s d j (k + 1) q m))
    unfolding walk
    walk_on j k p n = refl

    walk_missing : (j k p n : ℕ) → s.head p ≡ None → walk s d j k p n ≡ Err NoSegment
    walk_missing zero k p n e = walk_last k p n ∙ rw e
    walk_missing (suc j) k p n e = walk_on j k p n ∙ rw e

    walk_there : (j k p n u : ℕ) → s.head p ≡ Some u → u ≡ d → walk s d j k p n ≡ Ok k
    walk_there zero k p n u e x = walk_last k p n ∙ rw (e, eq-eqb u d x)
    walk_there (suc j) k p n u e x = walk_on j k p n ∙ rw (e, eq-eqb u d x)

    -- turn by turn: at segment p, the k-th counted, what is left of the walk decides
    module _ (whole : Result ℕ Refusal) (k p n : ℕ) (so : walk s d (960 - k) k p n ≡ whole) where
      pub turn_missing : s.head p ≡ None → Err NoSegment ≡ whole
      turn_missing e = sym (walk_missing (960 - k) k p n e) ∙ so

      module _ (u : ℕ) (e : s.head p ≡ Some u) where
        pub turn_there : u ≡ d → Ok k ≡ whole
        turn_there x = sym (walk_there (960 - k) k p n u e x) ∙ so

        module _ (x : u ≡ d → ⊥) where
          pub turn_spent : 960 ≤ k → Err TooLong ≡ whole
          turn_spent l =
              let none : 960 - k ≡ zero = omega arith in
              sym (ap (λ j. walk s d j k p n) none ∙ walk_last k p n ∙ rw (e, ne_eqb u d x)) ∙ so

          on : k < 960 → walked (next s p u d n) (λ q m. walk s d (960 - (k + 1)) (k + 1) q m) ≡ whole
          on l =
              let some : 960 - k ≡ suc (960 - (k + 1)) = omega arith in
              sym (ap (λ j. walk s d j k p n) some ∙ walk_on (960 - (k + 1)) k p n ∙ rw (e, ne_eqb u d x)) ∙ so

          pub turn_fails : (r : Refusal) → k < 960 → next s p u d n ≡ Err r → Err r ≡ whole
          turn_fails r l f = rw f at (on l)

          pub turn_on : (a : ℕ × ℕ) → k < 960 → next s p u d n ≡ Ok a → walk s d (960 - (k + 1)) (k + 1) a.0 a.1 ≡ whole
          turn_on a l f = rw f at (on l)

    onward_leads : (p m : ℕ) (qs : List ℕ) → Onward s d p m qs → (u : ℕ) × (s.head p ≡ Some u)
    onward_leads p m [] a = (d, a)
    onward_leads p m (q ∷ qs) a = (a.0, a.2)

    -- a remaining route is counted to its end
    pub counts : (j k p m : ℕ) (qs : List ℕ) → Onward s d p m qs → length qs ≤ j → walk s d j k p m ≡ Ok (k + length qs)
    counts zero k p m [] a l = walk_last k p m ∙ rw (a, eq-eqb d d refl) (ap Ok (omega arith))
    counts zero k p m (q ∷ qs) a l = absurd (omega arith)
    counts (suc j) k p m [] a l = walk_on j k p m ∙ rw (a, eq-eqb d d refl) (ap Ok (omega arith))
    counts (suc j) k p m (q ∷ qs) a l =
        let to = onward_leads q a.1 qs a.6 in
        let more : k + 1 + length qs ≡ k + suc (length qs) = omega arith in
        walk_on j k p m ∙ rw (a.2, ne_eqb a.0 d a.3, a.4, to.1, a.5) (counts j (k + 1) q a.1 qs a.6 (omega arith) ∙ ap Ok more)

    -- and what is counted is a remaining route
    abbrev Counted : ℕ → ℕ → ℕ → ℕ → Type 0
    Counted k p m r = (qs : List ℕ) × Onward s d p m qs × (r ≡ k + length qs)

    by_head : (k p m r : ℕ) (on : ℕ → Result ℕ Refusal) → ((u : ℕ) → s.head p ≡ Some u → (u ≡ d → ⊥) → on u ≡ Ok r → Counted k p m r) → (x : Option ℕ) → s.head p ≡ x → headed x d k on ≡ Ok r → Counted k p m r
    by_head k p m r on go None e f = absurd (ok_not_err _ r _ f refl)
    by_head k p m r on go (Some u) e f = by_test (eqb u d) refl f
      where
        by_test : (c : Bool) → eqb u d ≡ c → there c k (on u) ≡ Ok r → Counted k p m r
        by_test true g f' = let same = ok_same _ k r refl f' in ([], e ∙ ap Some (eqb-true u d g), omega arith)
        by_test false g f' = go u e (eqb-false u d g) f'

    by_next : (j k p m r u : ℕ) → ((q n : ℕ) → walk s d j (k + 1) q n ≡ Ok r → Counted (k + 1) q n r) → s.head p ≡ Some u → (u ≡ d → ⊥) → (v : Result (ℕ × ℕ) Refusal) → next s p u d m ≡ v → walked v (λ q n. walk s d j (k + 1) q n) ≡ Ok r → Counted k p m r
    by_next j k p m r u more l x (Err w) i f = absurd (ok_not_err _ r w f refl)
    by_next j k p m r u more l x (Ok a) i f =
        let rest = more a.0 a.1 f in
        let seen = subst (Finds p u d m) i (finds p u d m) in
        let long = rest.2 in
        (a.0 ∷ rest.0, (u, a.1, l, x, seen.wants, seen.opens, rest.1), omega arith)

    pub counted : (j k p m r : ℕ) → walk s d j k p m ≡ Ok r → Counted k p m r
    counted zero k p m r e = by_head k p m r (λ u. Err TooLong) (λ u l x f. absurd (ok_not_err _ r _ f refl)) (s.head p) refl (sym (walk_last k p m) ∙ e)
    counted (suc j) k p m r e =
        by_head k p m r _ (λ u l x f. by_next j k p m r u (λ q n g. counted j (k + 1) q n r g) l x _ refl f) (s.head p) refl (sym (walk_on j k p m) ∙ e)

  left_at : (b : Trays) (p : ℕ) (t : Tray) → look_outcome s b p ≡ Ok t → left_outcome s b p ≡ walk s t.destination 959 1 p t.note
  left_at b p t e = ap (left_of s p) e

  pub left_tells : (b : Trays) (p : ℕ) → LeftTells s b p
  left_tells b p = record {
    told = λ t k e f.
        let c = counted t.destination 959 1 p t.note k (sym (left_at b p t e) ∙ f) in
        let long = c.2 in
        (c.0, c.1, omega arith);
    tells = λ t qs e a l.
        let one_more : 1 + length qs ≡ suc (length qs) = omega arith in
        left_at b p t e ∙ counts t.destination 959 1 p t.note qs a (omega arith) ∙ ap Ok one_more;
  }

  -- what a tray has ahead of it is a remaining route
  pub ahead_onward : (rises : ℕ → ℕ → Bool) (d p m : ℕ) (qs : List ℕ) → Ahead s rises d p m qs → Onward s d p m qs
  ahead_onward rises d p m [] a = a
  ahead_onward rises d p m (q ∷ qs) a = (a.0, a.1, a.2, a.3, a.4, a.5, ahead_onward rises d q a.1 qs a.7)
