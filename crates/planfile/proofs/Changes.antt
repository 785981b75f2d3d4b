-- A file with one byte changed is refused by the sum of that byte's block.
use Rattle.std.proofs.Common.{◌≡◌, ℕ, zero, suc, ◌+◌, ◌-◌, ◌*◌, ◌/◌, ◌%◌, ◌<◌, ◌≤◌, min, true, cond, eqb, leb, List, length, get_or, drop, Some, None, sym, ap, ◌∙◌, ⊎_elim, arith}
use Rattle.std.proofs.lemmas.Nat.{div-mul-add, div-add-mod'}
use Rattle.std.proofs.lemmas.List.{ext_get_or, length-take, length-take-le, length-drop, get_or_past}
use Rattle.std.proofs.lemmas.Bool.{cases_eq, cases_lt}
use Rattle.blocks.specs.Changes.{AllBytes, OnlyAt}
use Rattle.planfile.specs.declared.block.Content.{Content}
use Rattle.planfile.specs.declared.block.Content.TheVariants.{Stops, Ways, Keys}
use Rattle.planfile.specs.declared.refusal.Refusal.TheVariants.{BadSum}
use Rattle.planfile.specs.Outcomes.{block_refusal, file_head, block_at, content_at, refusal_at, first_of, first_from, unless_long, length_fits, read_outcome}
use Rattle.planfile.specs.Promises.{PlanFile}
use Rattle.planfile.proofs.Spots.{at_block}
use Rattle.planfile.proofs.Verdicts.{from_more, from_bad, others_decide}
use Rattle.planfile.proofs.Judgements.{not_refused, few_stops, long_fits}
use Rattle.planfile.proofs.Contents.{block_bytes, one_byte_refused}

module _ (file : List ℕ) (f : PlanFile file) (all : AllBytes file) (i : ℕ) (other : List ℕ) (bytes : AllBytes other) (only : OnlyAt i file other) where
  abbrev n : ℕ
  n = get_or file 6 0

  -- the block of the changed byte
  abbrev q : ℕ
  q = i / 512

  -- a place in block j is at most the changed one's where j is another block
  elsewhere : (j p : ℕ) → (j ≡ q → ⊥) → p < 512 → 512 * j + p ≡ i → ⊥
  elsewhere j p ne h e =
      let at : i ≡ j * 512 + p = omega arith in
      ne (sym (ap (λ m. m / 512) at ∙ div-mul-add j 512 p h))

  block_same : (j : ℕ) → (j ≡ q → ⊥) → block_at other j ≡ block_at file j
  block_same j ne =
      let long = only.long in
      ext_get_or 0 (block_at other j) (block_at file j)
      (length-take 512 (drop (512 * j) other) ∙ ap (λ m. min 512 m) (length-drop (512 * j) other ∙ ap (λ m. m - 512 * j) (sym long) ∙ sym (length-drop (512 * j) file))
      ∙ sym (length-take 512 (drop (512 * j) file)))
      (λ p h.
      let short : p < 512 = omega (arith, length-take 512 (drop (512 * j) other)) in
      at_block other j p short ∙ sym (only.elsewhere (512 * j + p) (elsewhere j p ne short)) ∙ sym (at_block file j p short))

  -- its own block differs in that byte alone
  block_differs : OnlyAt (i % 512) (block_at file q) (block_at other q)
  block_differs =
      let long = only.long in
      let within = only.within in
      let whole = f.long in
      let here : 512 * q + i % 512 ≡ i = omega (arith, div-add-mod' i 512) in
      let small : i % 512 < 512 = omega arith in
      let old : length (block_at file q) ≡ 512 = length-take-le 512 (drop (512 * q) file) (omega (arith, length-drop (512 * q) file)) in
      let new : length (block_at other q) ≡ 512 = length-take-le 512 (drop (512 * q) other) (omega (arith, length-drop (512 * q) other)) in
      record {
        within = omega arith;
        long = old ∙ sym new;
        here = λ e. only.here
            (ap (λ p. get_or file p 0) (sym here) ∙ sym (at_block file q (i % 512) small) ∙ e ∙ at_block other q (i % 512) small ∙ ap (λ p. get_or other p 0) here);
        elsewhere = λ p ne.
            ⊎_elim
            (λ (h : p < 512). at_block file q p h ∙ only.elsewhere (512 * q + p) (λ e. ne (omega arith)) ∙ sym (at_block other q p h))
            (λ h. get_or_past (block_at file q) p 0 (omega arith) ∙ sym (get_or_past (block_at other q) p 0 (omega arith)))
            (cases_lt p 512);
      }

  sum_tells : refusal_at other q ≡ Some (BadSum q)
  sum_tells =
      let long = f.long in
      let within = only.within in
      let bound : q < n + 9 = omega arith in
      one_byte_refused file f all q (i % 512) (block_at other q) (file_head other) (content_at other q) q bound (block_bytes other bytes q) block_differs

  fits : length_fits (length other) ≡ true
  fits = ap length_fits (sym only.long) ∙ long_fits file n (few_stops file (f.blocks 0 (omega arith))) f.long

  -- a byte of the first block, where another block is changed
  first_same : (q ≡ 0 → ⊥) → (p : ℕ) → p < 512 → get_or other p 0 ≡ get_or file p 0
  first_same ne p h = sym (only.elsewhere p (λ e. ne (let z : p / 512 ≡ 0 = omega arith in ap (λ m. m / 512) (sym e) ∙ z)))

  refusal_same : (q ≡ 0 → ⊥) → (j : ℕ) → j < n + 9 → (j ≡ q → ⊥) → refusal_at other j ≡ None
  refusal_same ne j h other_block =
      let few = few_stops file (f.blocks 0 (omega arith)) in
      let byte = first_same ne in
      ap (λ b. block_refusal (file_head other) (content_at other j) j b) (block_same j other_block)
      ∙ ap (λ m. block_refusal (record { width = get_or other 4 0; height = get_or other 5 0; count = m }) (held m (get_or other (7 + j) 0)) j (block_at file j)) (byte 6 (omega arith))
      ∙ ap (λ s. block_refusal (record { width = get_or other 4 0; height = get_or other 5 0; count = n }) (held n s) j (block_at file j)) (byte (7 + j) (omega arith))
      ∙ ap (λ w. block_refusal (record { width = w; height = get_or other 5 0; count = n }) (content_at file j) j (block_at file j)) (byte 4 (omega arith))
      ∙ ap (λ g. block_refusal (record { width = get_or file 4 0; height = g; count = n }) (content_at file j) j (block_at file j)) (byte 5 (omega arith))
      ∙ not_refused _ _ _ _ (f.blocks j h)
    where
      held : ℕ → ℕ → Content
      held m s = cond (eqb j 0) Stops (cond (leb j m) (Ways s) (Keys (j - (m + 1))))

  -- the blocks before the changed one are passed
  reach : (k : ℕ) → k + 1 ≤ q → q < n + 9 → first_from other (n + 8) 1 ≡ first_from other (n + 9 - (k + 1)) (k + 1)
  reach zero h l = let e : n + 8 ≡ n + 9 - 1 = omega arith in ap (λ m. first_from other m 1) e
  reach (suc k) h l =
      let next : suc k ≡ k + 1 = omega arith in
      reach k (omega arith) l
      ∙ from_more other (n + 9) (k + 1) (omega arith) (refusal_same (λ z. omega arith) (k + 1) (omega arith) (λ e. omega arith))
      ∙ ap (λ m. first_from other (n + 9 - (m + 1)) (m + 1)) (sym next)

  pub named : read_outcome other ≡ Some (BadSum q)
  named =
      let whole = f.long in
      let within = only.within in
      let bound : q < n + 9 = omega arith in
      ⊎_elim
      (λ (z : q ≡ 0).
      ap (λ t. first_of (unless_long t) (first_of (refusal_at other 0) (first_of (unless_long (eqb (length other) (512 * (get_or other 6 0 + 9)))) (first_from other (get_or other 6 0 + 8) 1)))) fits
      ∙ ap (λ o. first_of o (first_of (unless_long (eqb (length other) (512 * (get_or other 6 0 + 9)))) (first_from other (get_or other 6 0 + 8) 1)))
      (ap (refusal_at other) (sym z) ∙ sum_tells))
      (λ ne.
      let count = first_same ne 6 (omega arith) in
      let at : q - 1 + 1 ≡ q = omega (arith, ne) in
      others_decide other fits (refusal_same ne 0 (omega arith) (λ e. ne (sym e))) (sym only.long ∙ whole ∙ ap (λ m. 512 * (m + 9)) (sym count))
      ∙ ap (λ m. first_from other (m + 8) 1) count
      ∙ reach (q - 1) (omega (arith, ne)) bound
      ∙ ap (λ m. first_from other (n + 9 - m) m) at
      ∙ from_bad other (n + 9) q (BadSum q) bound sum_tells)
      (cases_eq q 0)
