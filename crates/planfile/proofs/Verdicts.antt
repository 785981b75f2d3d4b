-- What is refused of a block, by its sum, its first four bytes and its body.
use Rattle.std.proofs.Common.{◌≡◌, ℕ, zero, suc, ◌+◌, ◌-◌, ◌*◌, ◌<◌, ◌≤◌, Bool, true, eqb, List, length, get_or, take, drop, Some, None, Option, sym, refl, ap, ◌∙◌, add-zero, arith}
use Rattle.std.proofs.lemmas.Bool.{eq-eqb}
use Rattle.std.proofs.lemmas.Bool.Decides.{nat_tests}
use Rattle.planfile.specs.declared.block.Content.{Content}
use Rattle.planfile.specs.declared.refusal.Refusal.{Refusal}
use Rattle.planfile.specs.Promises.{Front}
use Rattle.planfile.specs.Outcomes.{front_fits, judged, block_refusal, file_head, block_at, content_at, refusal_at, first_of, first_from, unless_long, length_fits, read_outcome}

pub front_fits_lem : (number : ℕ) (content : Content) (block : List ℕ) → Front number content block → front_fits number content block ≡ true
front_fits_lem number content block f = grind (arith, nat_tests)

pub front_of : (number : ℕ) (content : Content) (block : List ℕ) → front_fits number content block ≡ true → Front number content block
front_of number content block e = grind (arith, nat_tests)

pub judged_as : (n : ℕ) {sum front body sum' front' body' : Bool} → sum ≡ sum' → front ≡ front' → body ≡ body' → judged n sum front body ≡ judged n sum' front' body'
judged_as n {sum} {front} {body} {sum'} {front'} {body'} p q r = cc

pub none_some : {X : Type 0} (o : Option X) (x : X) → o ≡ None → o ≡ Some x → ⊥
none_some o x p q = let z : ◌≡◌ {A = ℕ} 0 1 = cc in omega arith

pub same_some : {X : Type 0} {x y : X} → ◌≡◌ {A = Option X} (Some x) (Some y) → x ≡ y
same_some e = cc

pub first_none : (o later : Option Refusal) → first_of o later ≡ None → (o ≡ None) × (later ≡ None)
first_none None later e = (refl, e)
first_none (Some r) later e = absurd (none_some _ r e refl)

module _ (file : List ℕ) where
  step : (m k : ℕ) → 0 < m → first_from file m k ≡ first_of (refusal_at file k) (first_from file (m - 1) (k + 1))
  unfolding first_from
  step zero k h = absurd (omega arith)
  step (suc m) k h = let e : m ≡ suc m - 1 = omega arith in ap (λ j. first_of (refusal_at file k) (first_from file j (k + 1))) e

  nothing : (k : ℕ) → first_from file 0 k ≡ None
  unfolding first_from
  nothing k = refl

  -- block k in a part that is cut from the file
  pub part_refusal : (k at : ℕ) (content : Content) (o : Option Refusal) → at ≡ 512 * k → content ≡ content_at file k
      → block_refusal (file_head file) content k (take (at + 512 - at) (drop at file)) ≡ o → refusal_at file k ≡ o
  part_refusal k at content o e f judged =
      let size : at + 512 - at ≡ 512 = omega arith in
      ap (λ x. block_refusal (file_head file) x k (block_at file k)) (sym f)
      ∙ ap (λ p. block_refusal (file_head file) content k (take 512 (drop p file))) (sym e)
      ∙ ap (λ n. block_refusal (file_head file) content k (take n (drop at file))) (sym size) ∙ judged

  -- from block k on to the block before e
  pub from_more : (e k : ℕ) → k < e → refusal_at file k ≡ None → first_from file (e - k) k ≡ first_from file (e - (k + 1)) (k + 1)
  from_more e k h good =
      let less : e - k - 1 ≡ e - (k + 1) = omega arith in
      step (e - k) k (omega arith) ∙ ap (λ o. first_of o (first_from file (e - k - 1) (k + 1))) good ∙ ap (λ j. first_from file j (k + 1)) less

  pub from_bad : (e k : ℕ) (r : Refusal) → k < e → refusal_at file k ≡ Some r → first_from file (e - k) k ≡ Some r
  from_bad e k r h bad = step (e - k) k (omega arith) ∙ ap (λ o. first_of o (first_from file (e - k - 1) (k + 1))) bad

  pub from_none : (e k : ℕ) → e ≤ k → first_from file (e - k) k ≡ None
  from_none e k h = let done : e - k ≡ 0 = omega arith in ap (λ j. first_from file j k) done ∙ nothing k

  pub each_good : (m k j : ℕ) → first_from file m k ≡ None → j < m → refusal_at file (k + j) ≡ None
  unfolding first_from
  each_good zero k j a h = absurd (omega arith)
  each_good (suc m) k zero a h = rw add-zero (first_none _ _ a).0
  each_good (suc m) k (suc j) a h =
      let same : k + 1 + j ≡ k + suc j = omega arith in
      ap (refusal_at file) (sym same) ∙ each_good m (k + 1) j (first_none _ _ a).1 (omega arith)

  -- where the length and the head are good, the other blocks decide
  pub others_decide : length_fits (length file) ≡ true → refusal_at file 0 ≡ None → length file ≡ 512 * (get_or file 6 0 + 9) → read_outcome file ≡ first_from file (get_or file 6 0 + 8) 1
  others_decide a b c =
      ap (λ t. first_of (unless_long t) (first_of (refusal_at file 0) (first_of (unless_long (eqb (length file) (512 * (get_or file 6 0 + 9)))) (first_from file (get_or file 6 0 + 8) 1)))) a
      ∙ ap (λ o. first_of o (first_of (unless_long (eqb (length file) (512 * (get_or file 6 0 + 9)))) (first_from file (get_or file 6 0 + 8) 1))) b
      ∙ ap (λ t. first_of (unless_long t) (first_from file (get_or file 6 0 + 8) 1)) (eq-eqb _ _ c)
