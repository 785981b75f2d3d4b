-- Each accepted advance leaves one segment less to go.
use Rattle.std.proofs.Common.{◌≡◌, ℕ, suc, ◌+◌, Bool, false, eqb, List, [], ◌∷◌, length, get_or, drop, Some, None, sym, refl, ap, ◌∙◌, arith}
use Rattle.std.proofs.lemmas.Bool.{eq-eqb, ne_eqb}
use Rattle.trays.specs.Logs.{Log, joined, each}
use Rattle.trays.specs.Logs.Log.{start, ◌then◌}
use Rattle.trays.specs.declared.tray.Tray.{Tray}
use Rattle.trays.specs.declared.trays.Trays.{Trays}
use Rattle.trays.specs.declared.event.Call.TheVariants.{Advance}
use Rattle.trays.specs.declared.event.Event.{Event}
use Rattle.trays.specs.Sites.{Site}
use Rattle.trays.specs.Outcomes.{Move, more, move, move_told}
use Rattle.trays.specs.Runs.{advancing, event, after, history}
use Rattle.trays.specs.declared.event.Event.TheVariants.{Advanced}
use Rattle.trays.specs.Outcomes.Move.{refuses, leaves, goes}
use Rattle.trays.proofs.Ahead.{Routed, Small}
use Rattle.trays.specs.Words.{let_in, pair_of, advances_of, left_from, one, accepted, advances_in, sum_over, to_go}
use Rattle.trays.proofs.Lists.{drop_tail}
use Rattle.trays.proofs.Sums.{sum_fall}
use Rattle.trays.proofs.Says.{range}
use Rattle.trays.proofs.Views.{Asked, Moves, of_move}
use Rattle.trays.proofs.Ways.{ends, goes_on}
use Rattle.trays.proofs.Agrees.{Agrees, rider}
use Rattle.trays.proofs.Steps.{step_kept}

module _ (routes : ℕ → ℕ → List ℕ) where
  abbrev pub total : Log Event → ℕ
  total h = sum_over (λ n. to_go routes n h) h

  pub riding_to_go : (n : ℕ) (h : Log Event) (o d k p : ℕ) (rest : List ℕ) → pair_of n h ≡ Some (o, d) → left_from n h ≡ None → advances_of n h ≡ k → drop k (routes o d) ≡ p ∷ rest → to_go routes n h ≡ suc (length rest)
  riding_to_go n h o d k p rest a l e f = rw (a, l, e, f)

module _ (s : Site) (rises : ℕ → ℕ → Bool) (routes : ℕ → ℕ → List ℕ) (small : Small s) (routed : Routed s rises routes) where
  module _ (b : Trays) (h : Log Event) (ag : Agrees s rises routes b h) (p : ℕ) where
    leave_falls : (t : Tray) (k : ℕ) → s.head p ≡ Some t.destination → get_or b.records p None ≡ Some t → total routes h ≡ suc (total routes (h then Advanced p t.number k 65535))
    leave_falls t k head here =
        let n = t.number in
        let held = ag.held p t here in
        let r = rider s rises routes b h ag p t here in
        let none = ends s rises t.destination p t.note r.rest r.ahead head in
        let in' = range n h held.its_let_in in
        let before = riding_to_go routes n h r.origin t.destination _ p [] r.is held.not_left refl (r.left ∙ ap (λ y. p ∷ y) none) in
        let now : to_go routes n (h then Advanced p n k 65535) ≡ 0 = rw (r.is, eq-eqb n n refl) in
        sum_fall (λ m. to_go routes m h) (λ m. to_go routes m (h then Advanced p n k 65535)) n (let_in h) in'.0 in'.1
        (λ m i. rw (ne_eqb m n i))
        (before ∙ ap suc (sym now))

    go_falls : (t : Tray) (u q m k : ℕ) → s.head p ≡ Some u → get_or b.records p None ≡ Some t → (u ≡ t.destination → ⊥) → Asked s b u t.destination t.note q m → total routes h ≡ suc (total routes (h then Advanced p t.number k q))
    go_falls t u q m k head here not_there asks =
        let n = t.number in
        let held = ag.held p t here in
        let r = rider s rises routes b h ag p t here in
        let next = goes_on s rises t.destination p t.note u q m r.rest r.ahead head not_there asks.asks in
        let in' = range n h held.its_let_in in
        let less = small q _ asks.leads in
        let is_not : eqb q 65535 ≡ false = ne_eqb q 65535 (λ e. omega arith) in
        let before = riding_to_go routes n h r.origin t.destination _ p r.rest r.is held.not_left refl r.left in
        let now =
        riding_to_go routes n (h then Advanced p n k q) r.origin t.destination (suc (advances_of n h)) q next.rest r.is (rw is_not held.not_left) (rw (eq-eqb n n refl))
        (drop_tail (advances_of n h) _ p _ r.left ∙ next.is) in
        sum_fall (λ m. to_go routes m h) (λ m. to_go routes m (h then Advanced p n k q)) n (let_in h) in'.0 in'.1
        (λ m i. rw (is_not, ne_eqb m n i))
        (before ∙ ap (λ y. suc (length y)) next.is ∙ ap suc (sym now))

    move_falls : (v : Move) → Moves s b p v → total routes (h then advancing p (move_told v)) + one (accepted (advancing p (move_told v))) ≡ total routes h
    move_falls (refuses r) x = omega arith
    move_falls (leaves t) x = omega (arith, leave_falls t (more 65535 t.advances) x.0 x.1)
    move_falls (goes t q m) x = omega (arith, go_falls t x.0 q m (more 65535 t.advances) x.1 x.2 x.3 x.4)

    pub advance_falls : total routes (h then event s b (Advance p)) + one (accepted (event s b (Advance p))) ≡ total routes h
    advance_falls = move_falls _ (of_move s b p)

  counts : (p : ℕ) (v : Move) (r : Log Event) → advances_in (r then advancing p (move_told v)) ≡ advances_in r + one (accepted (advancing p (move_told v)))
  counts p (refuses e) r = omega arith
  counts p (leaves t) r = omega arith
  counts p (goes t q m) r = omega arith

  pub record Ran (b : Trays) (h : Log Event) (ps : Log ℕ) : Type 0 where
    pub agrees : Agrees s rises routes (after s b (each Advance ps)) (joined h (history s b (each Advance ps)))
    pub fell : advances_in (history s b (each Advance ps)) + total routes (joined h (history s b (each Advance ps))) ≡ total routes h

  pub ran : (b : Trays) (h : Log Event) → Agrees s rises routes b h → (ps : Log ℕ) → Ran b h ps
  ran b h ag start = record { agrees = ag; fell = omega arith }
  ran b h ag (ps then p) =
      let before = ran b h ag ps in
      let rest = history s b (each Advance ps) in
      let here = after s b (each Advance ps) in
      let falls = advance_falls here (joined h rest) before.agrees p in
      let more' = counts p (move s here p) rest in
      let fell = before.fell in
      record { agrees = step_kept s rises routes small routed here (joined h rest) before.agrees (Advance p); fell = omega arith }
