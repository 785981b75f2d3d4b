-- Each call leaves the records in agreement with the history.
use Rattle.std.proofs.Common.{◌≡◌, ℕ, suc, ◌+◌, ◌<◌, ◌≤◌, min, Bool, true, false, eqb, List, [], ◌∷◌, length, get_or, set, is_some, Some, None, Ok, Err, Option, Result, sym, refl, ap, ◌∙◌, inl, inr, arith, length-set, get_or-set_other, get_or-set_same}
use Rattle.std.proofs.lemmas.Option.{none-some, same_Some}
use Rattle.std.proofs.lemmas.Bool.{cases_eq, eq-eqb, ne_eqb, lt-ltb, le-ltb, cases_lt}
use Rattle.trays.specs.Logs.{Log}
use Rattle.trays.specs.Logs.Log.{◌then◌}
use Rattle.trays.specs.declared.tray.Tray.{Tray}
use Rattle.trays.specs.declared.trays.Trays.{Trays}
use Rattle.trays.specs.declared.event.Call.{Call}
use Rattle.trays.specs.declared.event.Call.TheVariants.{Enter, Advance}
use Rattle.trays.specs.declared.refusal.Refusal.{Refusal}
use Rattle.trays.specs.declared.event.Event.{Event}
use Rattle.trays.specs.Sites.{Site, two_stops}
use Rattle.trays.specs.Outcomes.{Move, more, moved, enter_told, enter_done, move_told, move_done}
use Rattle.trays.specs.Runs.{entering, advancing, event, later}
use Rattle.trays.specs.declared.event.Event.TheVariants.{Refused, Entered, Advanced}
use Rattle.trays.specs.Outcomes.Move.{refuses, leaves, goes}
use Rattle.trays.proofs.Ahead.{Route, Routed}
use Rattle.trays.specs.Words.{let_in, pair_of, advances_of, left_from, segment_of, is_delivered, one, number}
use Rattle.trays.proofs.Lists.{set_none, drop_tail, drop_long}
use Rattle.trays.proofs.Sums.{sum_same, sum_fall, sum_small}
use Rattle.trays.proofs.Says.{fresh, range}
use Rattle.trays.proofs.Views.{Asked, Enters, of_entry, Moves, of_move}
use Rattle.trays.proofs.Ways.{begins, ends, goes_on}
use Rattle.trays.proofs.Agrees.{Tale, Held, Agrees, tale_stays, tale_fresh, rider, apart}

more_min : (k : ℕ) → more 65535 (min k 65535) ≡ min (suc k) 65535
more_min k =
    elim (cases_lt (min k 65535) 65535) [
      | inl l ↦ rw (lt-ltb (min k 65535) 65535 l) (omega arith)
      | inr l ↦ rw (le-ltb (min k 65535) 65535 l) (omega arith)
    ]

module _ (s : Site) (rises : ℕ → ℕ → Bool) (routes : ℕ → ℕ → List ℕ) (small : (q u : ℕ) → s.head q ≡ Some u → q < 1024) (routed : Routed s rises routes) where
  module _ (b : Trays) (h : Log Event) (ag : Agrees s rises routes b h) where
    still : (ys : List (Option Tray)) (n : ℕ) → ((p : ℕ) (t : Tray) → get_or b.records p None ≡ Some t → t.number ≡ n → get_or ys p None ≡ Some t) → Tale s rises routes ys n (pair_of n h) (left_from n h) (segment_of n h) (advances_of n h)
    still ys n keep = tale_stays s rises routes b.records ys n (pair_of n h) (left_from n h) (segment_of n h) (advances_of n h) keep (ag.tale n)

    pub refused_stays : (c : Call) (r : Refusal) → Agrees s rises routes b (h then Refused c r)
    refused_stays c r =
        record {
          long = ag.long;
          in_all = ag.in_all;
          few = ag.few;
          out = ag.out;
          pairs = ag.pairs;
          tale = ag.tale;
          held = λ p t e. let x = ag.held p t e in record { its_let_in = x.its_let_in; not_left = x.not_left; last = x.last };
        }

    -- a new tray on the segment q
    module _ (o d q m new : ℕ) (two : two_stops s o d ≡ true) (is : new ≡ suc (let_in h)) (asks : Asked s b o d (s.first o d) q m) (route : Route s rises d o (routes o d)) where
      abbrev fresh_tray : Tray
      fresh_tray = record { number = new; destination = d; note = m; advances = 0 }

      abbrev put : List (Option Tray)
      put = set b.records q (Some fresh_tray)

      within : q < length b.records
      within = let less = small q _ asks.leads in let long = ag.long in omega arith

      others : (p : ℕ) (t : Tray) → get_or b.records p None ≡ Some t → get_or put p None ≡ Some t
      others p t e = get_or-set_other b.records q p (Some fresh_tray) None (λ i. none-some t (sym asks.vacant ∙ (ap (λ y. get_or b.records y None) (sym i) ∙ e))) ∙ e

      new_tale : (n : ℕ) → n ≡ new → Tale s rises routes put n (Some (o, d)) (left_from n h) (Some q) (advances_of n h)
      new_tale n e =
          let none = tale_fresh s rises routes b.records n _ _ _ _ (fresh n h (omega arith)) (ag.tale n) in
          let start = begins s rises d o q m (routes o d) route asks.asks in
          rw (none.0, none.1)
          (record {
            segment = q;
            note = m;
            advances = 0;
            rest = start.rest;
            is = refl;
            there = get_or-set_same b.records q (Some fresh_tray) None within ∙ ap (λ y. Some (record { number = y; destination = d; note = m; advances = 0 })) (sym e);
            left = start.is;
            ahead = start.ahead;
            counts = omega arith;
          })

      enter_tale : (n : ℕ) → Tale s rises routes put n (pair_of n (h then Entered o d new q)) (left_from n h) (segment_of n (h then Entered o d new q)) (advances_of n h)
      enter_tale n =
          elim (cases_eq n new) [
            | inl e ↦ rw (eq-eqb n new e, eq-eqb n (suc (let_in h)) (e ∙ is)) (new_tale n e)
            | inr e ↦ rw (ne_eqb n new e, ne_eqb n (suc (let_in h)) (λ i. e (i ∙ sym is))) (still put n (λ p t g j. others p t g))
          ]

      new_held : (p : ℕ) (t : Tray) → p ≡ q → get_or put p None ≡ Some t → Held s rises routes (h then Entered o d new q) t.number p
      new_held p t i e =
          let same = same_Some _ _ (sym (ap (λ y. get_or put y None) (sym i) ∙ e) ∙ (get_or-set_same b.records q (Some fresh_tray) None within)) in
          let none = tale_fresh s rises routes b.records new _ _ _ _ (fresh new h (omega arith)) (ag.tale new) in
          rw same
          (record {
            its_let_in = rw (eq-eqb new (suc (let_in h)) is);
            not_left = none.0;
            last = rw (eq-eqb new new refl) (ap Some (sym i));
          })

      old_held : (p : ℕ) (t : Tray) → get_or b.records p None ≡ Some t → Held s rises routes (h then Entered o d new q) t.number p
      old_held p t e =
          let x = ag.held p t e in
          let r = range t.number h x.its_let_in in
          let up = r.1 in
          let differs : t.number ≡ new → ⊥ = λ i. omega arith in
          record {
            its_let_in = rw (ne_eqb t.number (suc (let_in h)) (λ i. omega arith)) x.its_let_in;
            not_left = x.not_left;
            last = rw (ne_eqb t.number new differs) x.last;
          }

      enter_held : (p : ℕ) (t : Tray) → get_or put p None ≡ Some t → Held s rises routes (h then Entered o d new q) t.number p
      enter_held p t e =
          elim (cases_eq p q) [
            | inl i ↦ new_held p t i e
            | inr i ↦ old_held p t (sym (get_or-set_other b.records q p (Some fresh_tray) None i) ∙ e)
          ]

      enter_pairs : (n a c : ℕ) → pair_of n (h then Entered o d new q) ≡ Some (a, c) → two_stops s a c ≡ true
      enter_pairs n a c e =
          elim (cases_eq n (suc (let_in h))) [
            | inl i ↦ let same = same_Some _ _ (sym (rw (eq-eqb n (suc (let_in h)) i) at e)) in sym (ap (λ (x : ℕ × ℕ). two_stops s x.0 x.1) (sym same)) ∙ two
            | inr i ↦ ag.pairs n a c (rw (ne_eqb n (suc (let_in h)) i) at e)
          ]

      pub enter_stays : new ≤ 4294967295 → Agrees s rises routes (record { records = put; entered = new; delivered = b.delivered }) (h then Entered o d new q)
      enter_stays l =
          let none = tale_fresh s rises routes b.records (suc (let_in h)) _ _ _ _ (fresh (suc (let_in h)) h (omega arith)) (ag.tale (suc (let_in h))) in
          let zero' : one (is_delivered (suc (let_in h)) h) ≡ 0 = ap (λ x. one (is_some x)) none.0 in
          let old = ag.out in
          record {
            long = length-set b.records q (Some fresh_tray) ∙ ag.long;
            in_all = is;
            few = omega arith;
            out = omega arith;
            pairs = enter_pairs;
            tale = enter_tale;
            held = enter_held;
          }

    -- a tray t comes off the segment p
    module _ (p : ℕ) (t : Tray) (k : ℕ) (head : s.head p ≡ Some t.destination) (here : get_or b.records p None ≡ Some t) where
      abbrev off : List (Option Tray)
      off = set b.records p None

      its : Held s rises routes h t.number p
      its = ag.held p t here

      leave_arrives : (n : ℕ) → n ≡ t.number → Tale s rises routes off n (pair_of n h) (Some p) (Some 65535) (suc (advances_of n h))
      leave_arrives n e =
          let r = rider s rises routes b h ag p t here in
          let none = ends s rises t.destination p t.note r.rest r.ahead head in
          let total = drop_long (advances_of t.number h) _ p [] (r.left ∙ ap (λ y. p ∷ y) none) in
          rw (e, r.is) (head, omega arith)

      leave_tale : (n : ℕ) → Tale s rises routes off n (pair_of n h) (left_from n (h then Advanced p t.number k 65535)) (segment_of n (h then Advanced p t.number k 65535)) (advances_of n (h then Advanced p t.number k 65535))
      leave_tale n =
          elim (cases_eq n t.number) [
            | inl e ↦ rw (eq-eqb n t.number e) (leave_arrives n e)
            | inr e ↦ rw (ne_eqb n t.number e)
                (still off n (λ r u g j. get_or-set_other b.records p r None None (λ i. e (sym j ∙ ap (λ v. v.number) (same_Some _ _ (sym g ∙ (ap (λ y. get_or b.records y None) i ∙ here))))) ∙ g))
          ]

      leave_held : (r : ℕ) (u : Tray) → get_or off r None ≡ Some u → Held s rises routes (h then Advanced p t.number k 65535) u.number r
      leave_held r u e =
          elim (cases_eq r p) [
            | inl i ↦ absurd (none-some u (sym (ap (λ y. get_or off y None) i ∙ set_none b.records p) ∙ e))
            | inr i ↦
                let old : get_or b.records r None ≡ Some u = sym (get_or-set_other b.records p r None None i) ∙ e in
                let x = ag.held r u old in
                let differs : u.number ≡ t.number → ⊥ = λ j. i (apart s rises routes b h ag r p u t old here j) in
                record {
                  its_let_in = x.its_let_in;
                  not_left = rw (ne_eqb u.number t.number differs) x.not_left;
                  last = rw (ne_eqb u.number t.number differs) x.last;
                }
          ]

      -- one more is delivered
      leave_counts : number (λ n. is_delivered n (h then Advanced p t.number k 65535)) h ≡ suc (number (λ n. is_delivered n h) h)
      leave_counts =
          let r = range t.number h its.its_let_in in
          sum_fall (λ n. one (is_delivered n (h then Advanced p t.number k 65535))) (λ n. one (is_delivered n h)) t.number (let_in h) r.0 r.1
          (λ m i. rw (ne_eqb m t.number i))
          (rw (eq-eqb t.number t.number refl, its.not_left))

      pub leave_stays : Agrees s rises routes (record { records = off; entered = b.entered; delivered = more 4294967295 b.delivered }) (h then Advanced p t.number k 65535)
      leave_stays =
          let counts = leave_counts in
          let most = sum_small (λ n. is_delivered n (h then Advanced p t.number k 65535)) (let_in h) in
          let few = ag.few in
          let old = ag.out in
          let below : b.delivered < 4294967295 = omega arith in
          record {
            long = length-set b.records p None ∙ ag.long;
            in_all = ag.in_all;
            few = ag.few;
            out = rw (lt-ltb b.delivered 4294967295 below) (omega arith);
            pairs = ag.pairs;
            tale = leave_tale;
            held = leave_held;
          }

    -- a tray t goes on from the segment p to the segment q
    module _ (p : ℕ) (t : Tray) (u q m k : ℕ) (head : s.head p ≡ Some u) (here : get_or b.records p None ≡ Some t) (not_there : u ≡ t.destination → ⊥) (asks : Asked s b u t.destination t.note q m) where
      abbrev on : List (Option Tray)
      on = set (set b.records q (Some (moved t m))) p None

      is_not : eqb q 65535 ≡ false
      is_not = let less = small q _ asks.leads in ne_eqb q 65535 (λ e. omega arith)

      differ : q ≡ p → ⊥
      differ e = none-some t (sym asks.vacant ∙ (ap (λ y. get_or b.records y None) e ∙ here))

      go_within : q < length b.records
      go_within = let less = small q _ asks.leads in let long = ag.long in omega arith

      stands : get_or on q None ≡ Some (moved t m)
      stands = get_or-set_other (set b.records q (Some (moved t m))) p q None None differ ∙ get_or-set_same b.records q (Some (moved t m)) None go_within

      elsewhere : (r : ℕ) → (r ≡ p → ⊥) → (r ≡ q → ⊥) → get_or on r None ≡ get_or b.records r None
      elsewhere r x y = get_or-set_other (set b.records q (Some (moved t m))) p r None None x ∙ get_or-set_other b.records q r (Some (moved t m)) None y

      its' : Held s rises routes h t.number p
      its' = ag.held p t here

      go_rides : (n : ℕ) → n ≡ t.number → Tale s rises routes on n (pair_of n h) (left_from n h) (Some q) (suc (advances_of n h))
      go_rides n e =
          let r = rider s rises routes b h ag p t here in
          let next = goes_on s rises t.destination p t.note u q m r.rest r.ahead head not_there asks.asks in
          rw (e, r.is, its'.not_left)
          (record {
            segment = q;
            note = m;
            advances = more 65535 t.advances;
            rest = next.rest;
            is = refl;
            there = stands;
            left = drop_tail (advances_of t.number h) _ p _ r.left ∙ next.is;
            ahead = next.ahead;
            counts = ap (more 65535) r.counts ∙ more_min (advances_of t.number h);
          })

      go_tale : (n : ℕ) → Tale s rises routes on n (pair_of n h) (left_from n (h then Advanced p t.number k q)) (segment_of n (h then Advanced p t.number k q)) (advances_of n (h then Advanced p t.number k q))
      go_tale n =
          elim (cases_eq n t.number) [
            | inl e ↦ rw (is_not, eq-eqb n t.number e) (go_rides n e)
            | inr e ↦ rw (is_not, ne_eqb n t.number e)
                (still on n (λ r v g j. elsewhere r (λ i. e (sym j ∙ ap (λ w. w.number) (same_Some _ _ (sym g ∙ (ap (λ y. get_or b.records y None) i ∙ here))))) (λ i. none-some v (sym (ap (λ y. get_or b.records y None) i ∙ asks.vacant) ∙ g)) ∙ g))
          ]

      go_held_new : (r : ℕ) (v : Tray) → r ≡ q → get_or on r None ≡ Some v → Held s rises routes (h then Advanced p t.number k q) v.number r
      go_held_new r v i e =
          let same = same_Some _ _ (sym (ap (λ y. get_or on y None) (sym i) ∙ e) ∙ stands) in
          rw same
          (record {
            its_let_in = its'.its_let_in;
            not_left = rw is_not its'.not_left;
            last = rw (eq-eqb t.number t.number refl) (ap Some (sym i));
          })

      go_held_old : (r : ℕ) (v : Tray) → (r ≡ p → ⊥) → get_or b.records r None ≡ Some v → Held s rises routes (h then Advanced p t.number k q) v.number r
      go_held_old r v i old =
          let x = ag.held r v old in
          let differs : v.number ≡ t.number → ⊥ = λ j. i (apart s rises routes b h ag r p v t old here j) in
          record {
            its_let_in = x.its_let_in;
            not_left = rw is_not x.not_left;
            last = rw (ne_eqb v.number t.number differs) x.last;
          }

      go_held : (r : ℕ) (v : Tray) → get_or on r None ≡ Some v → Held s rises routes (h then Advanced p t.number k q) v.number r
      go_held r v e =
          elim (cases_eq r p) [
            | inl i ↦ absurd (none-some v (sym (ap (λ y. get_or on y None) i ∙ set_none (set b.records q (Some (moved t m))) p) ∙ e))
            | inr i ↦ elim (cases_eq r q) [
              | inl j ↦ go_held_new r v j e
              | inr j ↦ go_held_old r v i (sym (elsewhere r i j) ∙ e)
            ]
          ]

      pub go_stays : Agrees s rises routes (record { records = on; entered = b.entered; delivered = b.delivered }) (h then Advanced p t.number k q)
      go_stays =
          record {
            long = length-set (set b.records q (Some (moved t m))) p None ∙ length-set b.records q (Some (moved t m)) ∙ ag.long;
            in_all = ag.in_all;
            few = ag.few;
            out = ag.out ∙ sum_same (λ n. one (is_delivered n h)) (λ n. one (is_delivered n (h then Advanced p t.number k q))) (let_in h) (λ n x y. rw is_not);
            pairs = ag.pairs;
            tale = go_tale;
            held = go_held;
          }

    enter_kept : (o d : ℕ) (v : Result (ℕ × ℕ) Refusal) → Enters s b o d v → Agrees s rises routes (enter_done b d v) (h then entering o d (enter_told b v))
    enter_kept o d (Ok a) x =
        let same = ag.in_all in
        let less = x.1 in
        enter_stays o d a.0 a.1 (b.entered + 1) x.0 (omega arith) x.2 (routed o d x.0) (omega arith)
    enter_kept o d (Err r) x = refused_stays (Enter o d) r

    move_kept : (p : ℕ) (v : Move) → Moves s b p v → Agrees s rises routes (move_done b p v) (h then advancing p (move_told v))
    move_kept p (refuses r) x = refused_stays (Advance p) r
    move_kept p (leaves t) x = leave_stays p t (more 65535 t.advances) x.0 x.1
    move_kept p (goes t q m) x = go_stays p t x.0 q m (more 65535 t.advances) x.1 x.2 x.3 x.4

    pub step_kept : (c : Call) → Agrees s rises routes (later s b c) (h then event s b c)
    step_kept (Enter o d) = enter_kept o d _ (of_entry s b o d)
    step_kept (Advance p) = move_kept p _ (of_move s b p)
