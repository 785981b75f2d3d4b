-- A file that is not refused is of the layout, and one of the layout is not refused.
use Rattle.std.proofs.Common.{◌≡◌, ℕ, zero, suc, ◌+◌, ◌-◌, ◌*◌, ◌<◌, ◌≤◌, Bool, true, false, ◌⊎◌, List, length, get_or, drop, Some, None, Option, sym, refl, ap, ◌∙◌, subst, inl, inr, ⊎_elim, arith}
use Rattle.std.proofs.lemmas.Bool.{eq-eqb, eqb-true, eqb-false, both_ways, cases_eq, cases_lt}
use Rattle.std.proofs.lemmas.Bool.Decides.{nat_tests}
use Rattle.blocks.specs.Words.{adds_up}
use Rattle.planfile.specs.declared.block.Head.{Head}
use Rattle.planfile.specs.declared.block.Content.{Content}
use Rattle.planfile.specs.declared.refusal.Refusal.{Refusal}
use Rattle.planfile.specs.declared.refusal.Refusal.TheVariants.{BadLength, BadSum, BadFront, BadContent}
use Rattle.planfile.specs.Layouts.{byte_fits, body_fits}
use Rattle.planfile.specs.Outcomes.{front_fits, judged, block_refusal, file_head, block_at, content_at, refusal_at, first_of, first_from, unless_long, length_fits, read_outcome}
use Rattle.planfile.specs.Promises.{GoodBlock, GoodAt, PlanFile, GoodBefore, FirstFault}
use Rattle.planfile.proofs.Places.{each_of_all, all_of_each, one_fails}
use Rattle.planfile.proofs.Spots.{in_block}
use Rattle.planfile.proofs.Verdicts.{same_some, front_fits_lem, front_of, judged_as, none_some, first_none, from_more, from_none, each_good, others_decide}

passed : (n : ℕ) (sum front body : Bool) → judged n sum front body ≡ None → (sum ≡ true) × (front ≡ true) × (body ≡ true)
passed n false front body e = absurd (none_some _ (BadSum n) e refl)
passed n true false body e = absurd (none_some _ (BadFront n) e refl)
passed n true true false e = absurd (none_some _ (BadContent n) e refl)
passed n true true true e = (refl, refl, refl)

module _ (head : Head) (content : Content) (number : ℕ) (block : List ℕ) where
  pub good_block : block_refusal head content number block ≡ None → GoodBlock head content number block
  good_block e =
      let p = passed number _ _ _ e in
      record {
        adds = eqb-true _ _ p.0;
        front = front_of number content block p.1;
        bytes = λ place low high.
            let at : 4 + (place - 4) ≡ place = omega arith in
            ap (byte_fits head content (drop 4 block)) (sym at) ∙ each_of_all (byte_fits head content (drop 4 block)) 504 4 (place - 4) p.2 (omega arith);
      }

  pub not_refused : GoodBlock head content number block → block_refusal head content number block ≡ None
  not_refused g =
      judged_as number (eq-eqb _ _ g.adds) (front_fits_lem number content block g.front)
      (all_of_each (byte_fits head content (drop 4 block)) 504 4 (λ k h. g.bytes (4 + k) (omega arith) (omega arith)))

module _ (file : List ℕ) where
  pub long_fits : (n : ℕ) → n ≤ 64 → length file ≡ 512 * (n + 9) → length_fits (length file) ≡ true
  long_fits n few e = grind (arith, nat_tests)

  -- the blocks from k on are good
  from_good : (m k : ℕ) → ((j : ℕ) → k ≤ j → j < k + m → refusal_at file j ≡ None) → first_from file m k ≡ None
  from_good zero k good = let same : 0 ≡ 0 - k = omega arith in ap (λ j. first_from file j k) same ∙ from_none file 0 k (omega arith)
  from_good (suc m) k good =
      let here : suc m ≡ k + suc m - k = omega arith in
      let next : k + suc m - (k + 1) ≡ m = omega arith in
      ap (λ j. first_from file j k) here ∙ from_more file (k + suc m) k (omega arith) (good k (omega arith) (omega arith))
      ∙ ap (λ j. first_from file j (k + 1)) next ∙ from_good m (k + 1) (λ j low high. good j (omega arith) (omega arith))

  unless_none : (t : Bool) → unless_long t ≡ None → t ≡ true
  unless_none true e = refl
  unless_none false e = absurd (none_some _ BadLength e refl)

  all_good : refusal_at file 0 ≡ None → first_from file (get_or file 6 0 + 8) 1 ≡ None → (k : ℕ) → k < get_or file 6 0 + 9 → refusal_at file k ≡ None
  all_good head others k h =
      ⊎_elim (λ (z : k ≡ 0). ap (refusal_at file) z ∙ head)
      (λ ne. let at : 1 + (k - 1) ≡ k = omega (arith, ne) in ap (refusal_at file) (sym at) ∙ each_good file (get_or file 6 0 + 8) 1 (k - 1) others (omega (arith, ne)))
      (cases_eq k 0)

  pub of_layout : read_outcome file ≡ None → PlanFile file
  of_layout e =
      let p = first_none _ _ e in
      let q = first_none _ _ p.1 in
      let r = first_none _ _ q.1 in
      record { long = eqb-true _ _ (unless_none _ r.0); blocks = λ k h. good_block _ _ _ _ (all_good q.0 r.1 k h) }

  -- byte 6 of the head block is the number of stops
  pub few_stops : GoodAt file 0 → get_or file 6 0 ≤ 64
  few_stops g = let b = g.bytes 6 (omega arith) (omega arith) in let at = in_block file 0 6 (omega arith) (omega arith) in grind (arith, nat_tests)

  pub plan_not_refused : PlanFile file → read_outcome file ≡ None
  plan_not_refused f =
      let long = f.long in
      let few = few_stops (f.blocks 0 (omega arith)) in
      others_decide file (long_fits (get_or file 6 0) few long) (not_refused _ _ _ _ (f.blocks 0 (omega arith))) long
      ∙ from_good (get_or file 6 0 + 8) 1 (λ j low high. not_refused _ _ _ _ (f.blocks j (omega arith)))

  -- what is refused of a block, by the first test that fails
  fault : (k : ℕ) (sum front body : Bool) (e : Refusal) → GoodBefore file k
      → adds_up (block_at file k) ≡ sum → front_fits k (content_at file k) (block_at file k) ≡ front → body_fits (file_head file) (content_at file k) (drop 4 (block_at file k)) ≡ body
      → judged k sum front body ≡ Some e → FirstFault file e
  fault k false front body e before a f b s = subst (FirstFault file) (same_some s) (before, λ adds. eqb-false _ _ a adds)
  fault k true false body e before a f b s =
      subst (FirstFault file) (same_some s) (before, eqb-true _ _ a, λ fits. both_ways _ f (front_fits_lem k (content_at file k) (block_at file k) fits))
  fault k true true false e before a f b s =
      let place = one_fails (byte_fits (file_head file) (content_at file k) (drop 4 (block_at file k))) 504 4 b in
      subst (FirstFault file) (same_some s)
      (before, eqb-true _ _ a, front_of k (content_at file k) (block_at file k) f, (4 + place.0, omega arith, omega (arith, place.1), place.2))
  fault k true true true e before a f b s = absurd (none_some _ e refl s)

  fault_at : (k : ℕ) (e : Refusal) → GoodBefore file k → refusal_at file k ≡ Some e → FirstFault file e
  fault_at k e before s = fault k _ _ _ e before refl refl refl s

  module _ (sized : length_fits (length file) ≡ true) (long : length file ≡ 512 * (get_or file 6 0 + 9)) (e : Refusal) where
    from_here : (k : ℕ) (o later : Option Refusal) → k < get_or file 6 0 + 9 → ((j : ℕ) → j < k → GoodAt file j)
        → refusal_at file k ≡ o → (GoodAt file k → later ≡ Some e → FirstFault file e) → first_of o later ≡ Some e → FirstFault file e
    from_here k (Some r) later w good is on s = fault_at k e (record { sized = sized; within = w; long = λ _. long; good = good }) (is ∙ s)
    from_here k None later w good is on s = on (good_block _ _ _ _ is) s

    from_fault : (m k : ℕ) → k + m ≡ get_or file 6 0 + 9 → ((j : ℕ) → j < k → GoodAt file j) → first_from file m k ≡ Some e → FirstFault file e
    unfolding first_from
    from_fault zero k w good s = absurd (none_some _ e refl s)
    from_fault (suc m) k w good s =
        from_here k (refusal_at file k) (first_from file m (k + 1)) (omega arith) good refl
        (λ here. from_fault m (k + 1) (omega arith)
        (λ j h. ⊎_elim (λ (q : j < k). good j q) (λ q. let same : k ≡ j = omega arith in subst (GoodAt file) same here) (cases_lt j k)))
        s

  first_length : (t : Bool) (later : Option Refusal) (e : Refusal) → first_of (unless_long t) later ≡ Some e → ((t ≡ false) × (BadLength ≡ e)) ⊎ ((t ≡ true) × (later ≡ Some e))
  first_length false later e s = inl (refl, same_some s)
  first_length true later e s = inr (refl, s)

  first_block : (o later : Option Refusal) (e : Refusal) → first_of o later ≡ Some e → (o ≡ Some e) ⊎ ((o ≡ None) × (later ≡ Some e))
  first_block (Some r) later e s = inl s
  first_block None later e s = inr (refl, s)

  pub first_fault : (e : Refusal) → read_outcome file ≡ Some e → FirstFault file e
  first_fault e s =
      ⊎_elim (λ p. subst (FirstFault file) p.1 (inl p.0))
      (λ p. ⊎_elim
      (λ q. fault_at 0 e (record { sized = p.0; within = omega arith; long = λ h. absurd (omega arith); good = λ j h. absurd (omega arith) }) q)
      (λ q. let head = good_block _ _ _ _ q.0 in
      ⊎_elim (λ r. subst (FirstFault file) r.1 (inr (head, eqb-false _ _ r.0)))
      (λ r. from_fault p.0 (eqb-true _ _ r.0) e (get_or file 6 0 + 8) 1 (omega arith)
      (λ j h. let z : 0 ≡ j = omega arith in subst (GoodAt file) z head) r.1)
      (first_length _ _ e q.1))
      (first_block _ _ e p.1))
      (first_length _ _ e s)
