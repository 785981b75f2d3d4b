-- What is promised is kept.
use Rattle.std.proofs.Common.{◌≡◌, ℕ, zero, suc, ◌+◌, ◌-◌, ◌<◌, Bool, true, false, not, ◌&&◌, List, ◌∷◌, length, get_or, replicate, is_some, Some, None, Ok, Err, Option, Result, sym, refl, ap, ◌∙◌, ap₂, inl, inr, arith}
use Rattle.std.proofs.lemmas.Option.{none-some, same_Some}
use lib.ListN.{length-replicate}
use Rattle.std.proofs.lemmas.Bool.{both_ways, cases_Bool}
use Rattle.trays.specs.Logs.{Log, joined, each}
use Rattle.trays.specs.Logs.Log.{start, ◌then◌}
use Rattle.trays.specs.declared.tray.Tray.{Tray}
use Rattle.trays.specs.declared.refusal.Refusal.{Refusal}
use Rattle.trays.specs.declared.trays.Trays.{Trays}
use Rattle.trays.specs.declared.event.Call.{Call}
use Rattle.trays.specs.declared.event.Call.TheVariants.{Enter, Advance}
use Rattle.trays.specs.declared.event.Event.{Event}
use Rattle.trays.specs.Sites.{Site}
use Rattle.trays.specs.Outcomes.{Move, no_trays, look_outcome, enter_told, enter_done, move_told, move_done}
use Rattle.trays.specs.Runs.{event, later, after, history, entering, advancing}
use Rattle.trays.specs.Outcomes.Move.{refuses, leaves, goes}
use Rattle.trays.proofs.Ahead.{Routed, Within, Small, Strict}
use Rattle.trays.specs.Words.{let_in, pair_of, advances_of, left_from, segment_of, is_delivered, on_floor, one, number, remaining, to_go, accepted}
use Rattle.trays.specs.Promises.{CanAdvance, Alone, Arrived, Counted, Kept, Empty, Empties, Promised}
use Rattle.trays.proofs.Lists.{drop_long}
use Rattle.trays.proofs.Ways.{leads}
use Rattle.trays.proofs.Walks.{left_tells, ahead_onward}
use Rattle.trays.proofs.Sums.{sum_either, sum_none, sum_holds, sum_some}
use Rattle.trays.proofs.Says.{known, range}
use Rattle.trays.proofs.Agrees.{Rides, Tale, Agrees}
use Rattle.trays.proofs.Steps.{step_kept}
use Rattle.trays.proofs.Tops.{can_advance}
use Rattle.trays.proofs.Falls.{total, riding_to_go, advance_falls, ran}

bare : (n p : ℕ) → ◌≡◌ {A = Option Tray} (get_or (replicate n None) p None) None
bare zero p = refl
bare (suc n) zero = refl
bare (suc n) (suc p) = bare n p

either : (x : Bool) → one x + one (true && not x) ≡ 1
either true = refl
either false = refl

-- a run in two parts
pub after_parts : (s : Site) (b : Trays) (cs ds : Log Call) → after s b (joined cs ds) ≡ after s (after s b cs) ds
after_parts s b cs start = refl
after_parts s b cs (ds then d) = ap (λ x. later s x d) (after_parts s b cs ds)

pub history_parts : (s : Site) (b : Trays) (cs ds : Log Call) → history s b (joined cs ds) ≡ joined (history s b cs) (history s (after s b cs) ds)
history_parts s b cs start = refl
history_parts s b cs (ds then d) = ap₂ (λ x y. y then event s x d) (after_parts s b cs ds) (history_parts s b cs ds)

enter_refuses : (b : Trays) (o d : ℕ) (v : Result (ℕ × ℕ) Refusal) → accepted (entering o d (enter_told b v)) ≡ false → enter_done b d v ≡ b
enter_refuses b o d (Ok a) e = absurd (both_ways true e refl)
enter_refuses b o d (Err r) e = refl

move_refuses : (b : Trays) (p : ℕ) (v : Move) → accepted (advancing p (move_told v)) ≡ false → move_done b p v ≡ b
move_refuses b p (refuses r) e = refl
move_refuses b p (leaves t) e = absurd (both_ways true e refl)
move_refuses b p (goes t q m) e = absurd (both_ways true e refl)

refuses_leave : (s : Site) (b : Trays) (c : Call) → accepted (event s b c) ≡ false → later s b c ≡ b
refuses_leave s b (Enter o d) e = enter_refuses b o d _ e
refuses_leave s b (Advance p) e = move_refuses b p _ e

module _ (s : Site) (rises : ℕ → ℕ → Bool) (routes : ℕ → ℕ → List ℕ) where
  none_agrees : Agrees s rises routes no_trays start
  none_agrees =
      record {
        long = length-replicate {A = Option Tray} 1024 None;
        in_all = refl;
        few = omega arith;
        out = refl;
        pairs = λ n o d e. absurd (none-some (o, d) e);
        tale = λ n. refl;
        held = λ p t e. absurd (none-some t (sym (bare 1024 p) ∙ e));
      }

  -- a tray on the floor, with its record
  record Riding (xs : List (Option Tray)) (n : ℕ) (pair : Option (ℕ × ℕ)) (left last : Option ℕ) (k : ℕ) : Type 0 where
    origin : ℕ
    destination : ℕ
    is : pair ≡ Some (origin, destination)
    not_left : left ≡ None
    rides : Rides s rises routes xs n origin destination last k

  riding_of : (xs : List (Option Tray)) (n : ℕ) (pair : Option (ℕ × ℕ)) (left last : Option ℕ) (k : ℕ) → Tale s rises routes xs n pair left last k → (is_some pair && not (is_some left)) ≡ true → Riding xs n pair left last k
  riding_of xs n None left last k x e = absurd (both_ways false refl e)
  riding_of xs n (Some a) None last k x e = record { origin = a.0; destination = a.1; is = refl; not_left = refl; rides = x }
  riding_of xs n (Some a) (Some p) last k x e = absurd (both_ways false refl e)

  arrived_of : (xs : List (Option Tray)) (n p : ℕ) (pair : Option (ℕ × ℕ)) (left last : Option ℕ) (k : ℕ) → Tale s rises routes xs n pair left last k → left ≡ Some p → (o d : ℕ) × (pair ≡ Some (o, d)) × (s.head p ≡ Some d) × (k ≡ length (routes o d))
  arrived_of xs n p None None last k x e = absurd (none-some p e)
  arrived_of xs n p None (Some c) last k x e = absurd x
  arrived_of xs n p (Some a) None last k x e = absurd (none-some p e)
  arrived_of xs n p (Some a) (Some c) last k x e =
      let same = same_Some _ _ e in
      (a.0, a.1, refl, ap s.head (sym same) ∙ x.0, x.1)

  module _ (b : Trays) (h : Log Event) (ag : Agrees s rises routes b h) where
    riding : (n : ℕ) → on_floor n h ≡ true → Riding b.records n (pair_of n h) (left_from n h) (segment_of n h) (advances_of n h)
    riding n e = riding_of b.records n (pair_of n h) (left_from n h) (segment_of n h) (advances_of n h) (ag.tale n) e

    no_other : (n m : ℕ) (p : ℕ) (t : Tray) → get_or b.records p None ≡ Some t → t.number ≡ n → on_floor m h ≡ true → segment_of m h ≡ Some p → m ≡ n
    no_other n m p t g i e l =
        let r = riding m e in
        let same = same_Some _ _ (sym l ∙ r.rides.is) in
        let tray = same_Some _ _ (sym g ∙ (ap (λ y. get_or b.records y None) same ∙ r.rides.there)) in
        sym (ap (λ v. v.number) tray) ∙ i

    module _ (most : ℕ) (within : Within s routes most) where
      -- the remaining segments of a tray on the floor are no more than the longest route has
      rest_short : (n : ℕ) (r : Riding b.records n (pair_of n h) (left_from n h) (segment_of n h) (advances_of n h)) → length r.rides.rest < most
      rest_short n r =
          let whole = within r.origin r.destination (ag.pairs n _ _ r.is) in
          let long = drop_long (advances_of n h) (routes r.origin r.destination) _ _ r.rides.left in
          omega arith

      arrived : (n p : ℕ) → left_from n h ≡ Some p → Arrived s routes most h n p
      arrived n p e =
          let x = arrived_of b.records n p (pair_of n h) (left_from n h) (segment_of n h) (advances_of n h) (ag.tale n) e in
          let all = x.4 in
          let whole = within x.0 x.1 (ag.pairs n _ _ x.2) in
          record { origin = x.0; destination = x.1; pair = x.2; head = x.3; advances = x.4; at_most = omega arith }

    alone : Within s routes 960 → (n : ℕ) → on_floor n h ≡ true → Alone s routes b h n
    alone within n e =
        let r = riding n e in
        let x = r.rides in
        let lead = leads s rises r.destination x.segment x.note x.rest x.ahead in
        let look : look_outcome s b r.rides.segment ≡ Ok (record { number = n; destination = r.destination; note = r.rides.note; advances = r.rides.advances }) = rw (lead.1, x.there) in
        let first : remaining routes n h ≡ r.rides.segment ∷ r.rides.rest = rw r.is x.left in
        let short = rest_short 960 within n r in
        record {
          segment = x.segment;
          rest = x.rest;
          first = first;
          there = x.is;
          no_other = λ m f l. no_other n m _ _ x.there refl f l;
          left = (left_tells s b x.segment).tells _ x.rest look (ahead_onward s rises _ _ _ _ x.ahead) short ∙ ap (λ (l : List ℕ). Ok (length l)) (sym first);
          tray = _;
          look = look;
          its_number = refl;
          its_advances = x.counts;
        }

    counted : Counted b h
    counted =
        let sum =
        sum_either (λ n. one (is_delivered n h)) (λ n. one (on_floor n h)) (let_in h) (λ n l r. rw (known n h l r) (either (is_delivered n h))) in
        let in_all = ag.in_all in
        let out = ag.out in
        let left : b.entered - b.delivered ≡ number (λ n. on_floor n h) h = omega arith in
        record { tells = rw (ag.in_all, ag.out) (ap (λ x. (let_in h, number (λ n. is_delivered n h) h, x)) (omega arith)); sum = omega arith }

    moves : Strict rises → (n : ℕ) → on_floor n h ≡ true → CanAdvance s b
    moves strict n e = let r = riding n e in can_advance s rises strict routes b h ag r.rides.segment _ r.rides.there

    pub kept : (longest : ℕ) → Strict rises → Within s routes 960 → Within s routes longest → Kept s routes longest b h
    kept longest strict short within =
        record {
          refused = refuses_leave s b;
          moves = moves strict;
          alone = alone short;
          arrived = arrived longest within;
          counted = counted;
        }

    -- nothing is on the floor exactly where nothing is to go
    none_to_go : Empty h → total routes h ≡ 0
    none_to_go e = sum_none (λ n. to_go routes n h) (let_in h) (λ n. rw (e n))

    some_to_go : total routes h ≡ 0 → Empty h
    some_to_go z n =
        elim (cases_Bool (on_floor n h)) [
          | inr e ↦ e
          | inl e ↦
              let r = riding n e in
              let in' = range n h (rw r.is) in
              let here = sum_holds (λ m. to_go routes m h) n (let_in h) in'.0 in'.1 in
              let some = riding_to_go routes n h r.origin r.destination _ r.rides.segment r.rides.rest r.is r.not_left refl r.rides.left in
              absurd (omega arith)
        ]

  module _ (small : Small s) (routed : Routed s rises routes) where
    pub run_agrees : (cs : Log Call) → Agrees s rises routes (after s no_trays cs) (history s no_trays cs)
    run_agrees start = none_agrees
    run_agrees (cs then c) = step_kept s rises routes small routed _ _ (run_agrees cs) c

    pub empties : (cs : Log Call) (ps : Log ℕ) → Empties s routes cs ps
    empties cs ps =
        let ag = run_agrees cs in
        let r = ran s rises routes small routed _ _ ag ps in
        let fell = r.fell in
        rw (history_parts s no_trays cs (each Advance ps)) (
          λ e. let z = none_to_go _ _ r.agrees e in omega arith,
          λ e. some_to_go _ _ r.agrees (omega arith),
        )

module _ (s : Site) (rises : ℕ → ℕ → Bool) (routes : ℕ → ℕ → List ℕ) (small : Small s) (strict : Strict rises) (routed : Routed s rises routes) where
  to_go_on_floor : (n : ℕ) (h : Log Event) → (to_go routes n h ≡ 0 → ⊥) → on_floor n h ≡ true
  to_go_on_floor n h x = elim (cases_Bool (on_floor n h)) [ inl e ↦ e | inr e ↦ absurd (x (rw e)) ]

  first_after : (b : Trays) (p : ℕ) (ps : Log ℕ) → after s b (each Advance (joined (start then p) ps)) ≡ after s (later s b (Advance p)) (each Advance ps)
  first_after b p start = refl
  first_after b p (ps then q) = ap (λ x. later s x (Advance q)) (first_after b p ps)

  first_of : (b : Trays) (h : Log Event) (p : ℕ) (ps : Log ℕ) → joined h (history s b (each Advance (joined (start then p) ps))) ≡ joined (h then event s b (Advance p)) (history s (later s b (Advance p)) (each Advance ps))
  first_of b h p start = refl
  first_of b h p (ps then q) = ap₂ (λ x y. y then event s x (Advance q)) (first_after b p ps) (first_of b h p ps)

  -- as long as something is to go, an advance is accepted, and leaves one less
  drain : (k : ℕ) (b : Trays) (h : Log Event) → Agrees s rises routes b h → total routes h ≡ k → (ps : Log ℕ) × Empty (joined h (history s b (each Advance ps)))
  drain zero b h ag e = (start, some_to_go s rises routes b h ag e)
  drain (suc k) b h ag e =
      let n = sum_some (λ m. to_go routes m h) (let_in h) k e in
      let next = moves s rises routes b h ag strict n.0 (to_go_on_floor n.0 h n.1) in
      let p = next.0 in
      let one_less = ap one next.1 in
      let falls = advance_falls s rises routes small routed b h ag p in
      let rest = drain k (later s b (Advance p)) (h then event s b (Advance p)) (step_kept s rises routes small routed b h ag (Advance p)) (omega arith) in
      (joined (start then p) rest.0, rw (first_of b h p rest.0) rest.1)

  pub drains : (cs : Log Call) → (ps : Log ℕ) × Empty (history s no_trays (joined cs (each Advance ps)))
  drains cs =
      let d = drain _ _ _ (run_agrees s rises routes small routed cs) refl in
      (d.0, rw (history_parts s no_trays cs (each Advance d.0)) d.1)

-- what is promised, where each pair of different stops has its route
module _ (s : Site) (rises : ℕ → ℕ → Bool) (small : Small s) (strict : Strict rises) (routes : ℕ → ℕ → List ℕ) (routed : Routed s rises routes) (short : Within s routes 960) (longest : ℕ) (within : Within s routes longest) where
  pub promised : (cs : Log Call) → Promised s routes longest cs
  promised cs =
      record {
        kept = kept s rises routes _ _ (run_agrees s rises routes small routed cs) longest strict short within;
        empties = empties s rises routes small routed cs;
        drains = drains s rises routes small strict routed cs;
      }
