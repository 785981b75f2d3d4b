-- What a file of the layout holds.
use Rattle.std.proofs.Common.{◌≡◌, ℕ, zero, suc, ◌+◌, ◌-◌, ◌*◌, ◌/◌, ◌%◌, ◌<◌, ◌≤◌, true, false, ◌&&◌, ◌||◌, eqb, ltb, ◌⊎◌, List, length, get_or, drop, Some, sym, refl, ap, ◌∙◌, ⊎_elim, zero-add, arith}
use Rattle.std.proofs.lemmas.Bool.{eq-eqb, ne_eqb, lt-ltb, le-ltb, ltb-true, and_parts, or_cases, both_ways, cond-true, cond-false, cases_eq, cases_lt}
use Rattle.std.proofs.lemmas.List.{length-take, length-take-le, length-drop, get_or_past}
use Rattle.std.proofs.lemmas.Bool.Decides.{nat_tests}
use Rattle.blocks.specs.Words.{adds_up}
use Rattle.blocks.specs.Changes.{AllBytes}
use Rattle.blocks.proofs.Sums.{one_byte}
use Rattle.map.specs.Floors.{on_floor}
use Rattle.planfile.specs.declared.block.Head.{Head}
use Rattle.planfile.specs.declared.block.Content.TheVariants.{Ways, Keys}
use Rattle.planfile.specs.Layouts.{in_body, size_fits, stop_fits, head_byte_fits, entry_fits, way_byte_fits, is_there, key_byte_fits, byte_fits, body_fits}
use Rattle.planfile.specs.Outcomes.{front_fits, judged, file_head, block_at, content_at}
use Rattle.planfile.specs.Plans.{stop_at, place_of, entry_at, entry_way, way_to, way_in, key_place, key_in}
use Rattle.planfile.specs.Promises.{PlanFile, PlanHolds, OneByteRefused}
use Rattle.planfile.proofs.Spots.{at_block, in_block}
use Rattle.planfile.proofs.Searches.{seek_finds}
use Rattle.planfile.proofs.Judgements.{few_stops}

-- the ways to the stop at place i follow the head, and the keys follow the ways
module _ (file : List ℕ) where
  pub content_ways : (i : ℕ) → i < get_or file 6 0 → content_at file (i + 1) ≡ Ways (stop_at file i)
  content_ways i h = grind (arith, nat_tests)

  pub content_keys : (j : ℕ) → content_at file (get_or file 6 0 + 1 + j) ≡ Keys j
  content_keys j = grind (arith, nat_tests)

  pub block_bytes : AllBytes file → (k : ℕ) → AllBytes (block_at file k)
  block_bytes all k p =
      ⊎_elim (λ (h : p < 512). let at = at_block file k p h in let b = all (512 * k + p) in omega arith)
      (λ h. let past = get_or_past (block_at file k) p 0 (omega (arith, length-take 512 (drop (512 * k) file))) in omega arith)
      (cases_lt p 512)

-- the rules at the places that are in use
module _ (head : Head) where
  pub at_stop : (body : List ℕ) (i : ℕ) → i < head.count → head_byte_fits head body (8 + i) ≡ stop_fits head body (8 + i)
  at_stop body i h = grind (arith, nat_tests)

  pub at_entries : (stop q byte : ℕ) → q < 128 → way_byte_fits head stop (8 + q) byte ≡ (entry_fits head stop (2 * q) (byte / 16) && entry_fits head stop (2 * q + 1) (byte % 16))
  at_entries stop q byte h = grind (arith, nat_tests)

  pub at_keys : (part q byte : ℕ) → q < 256 → key_byte_fits head part (8 + q) byte ≡ (eqb byte 0 || is_there head (128 * part + q / 2))
  at_keys part q byte h = grind (arith, nat_tests)

module _ (file : List ℕ) (f : PlanFile file) where
  abbrev n : ℕ
  n = get_or file 6 0

  in_head : (p : ℕ) → 4 ≤ p → p < 508 → in_body (drop 4 (block_at file 0)) p ≡ get_or file p 0
  in_head p low high = in_block file 0 p low (omega arith) ∙ rw zero-add

  pub few : n ≤ 64
  few = few_stops file (f.blocks 0 (omega arith))

  head_byte_lem : (p : ℕ) → 4 ≤ p → p < 508 → head_byte_fits (file_head file) (drop 4 (block_at file 0)) p ≡ true
  head_byte_lem p low high = (f.blocks 0 (omega arith)).bytes p low high

  size : (b : ℕ) → size_fits b ≡ true → (1 ≤ b) × (b ≤ 16)
  size b e = grind (arith, nat_tests)

  stop_fits_lem : (i : ℕ) → i < n → stop_fits (file_head file) (drop 4 (block_at file 0)) (8 + i) ≡ true
  stop_fits_lem i h = let l = few in sym (at_stop (file_head file) (drop 4 (block_at file 0)) i h) ∙ head_byte_lem (8 + i) (omega arith) (omega arith)

  there : (i : ℕ) → i < n → on_floor (get_or file 4 0) (get_or file 5 0) (stop_at file i) ≡ true
  there i h =
      let l = few in
      ap (on_floor (get_or file 4 0) (get_or file 5 0)) (sym (in_head (8 + i) (omega arith) (omega arith))) ∙ (and_parts _ _ (stop_fits_lem i h)).0

  rising : (i : ℕ) → i + 1 < n → stop_at file i < stop_at file (i + 1)
  rising i h =
      let l = few in
      let low = in_head (8 + i) (omega arith) (omega arith) in
      let high = in_head (8 + (i + 1)) (omega arith) (omega arith) in
      let back : 8 + (i + 1) - 1 ≡ 8 + i = omega arith in
      ⊎_elim (λ e. absurd (both_ways _ (ne_eqb (8 + (i + 1)) 8 (λ z. omega arith)) e))
      (λ e. let less = ltb-true _ _ (ap (λ p. ltb (in_body (drop 4 (block_at file 0)) p) (in_body (drop 4 (block_at file 0)) (8 + (i + 1)))) (sym back) ∙ e) in omega arith)
      (or_cases _ _ (and_parts _ _ (stop_fits_lem (i + 1) h)).1)

  -- the two entries of a byte
  pub pair_fits : (i q : ℕ) → i < n → q < 128
      → (entry_fits (file_head file) (stop_at file i) (2 * q) (get_or file (512 * (i + 1) + 8 + q) 0 / 16) ≡ true)
      × (entry_fits (file_head file) (stop_at file i) (2 * q + 1) (get_or file (512 * (i + 1) + 8 + q) 0 % 16) ≡ true)
  pair_fits i q h l =
      let body = drop 4 (block_at file (i + 1)) in
      let at : 512 * (i + 1) + (8 + q) ≡ 512 * (i + 1) + 8 + q = omega arith in
      let rule : byte_fits (file_head file) (content_at file (i + 1)) body (8 + q) ≡ true = (f.blocks (i + 1) (omega arith)).bytes (8 + q) (omega arith) (omega arith) in
      let byte = in_block file (i + 1) (8 + q) (omega arith) (omega arith) ∙ ap (λ p. get_or file p 0) at in
      and_parts _ _
      (sym (at_entries (file_head file) (stop_at file i) q (get_or file (512 * (i + 1) + 8 + q) 0) l)
      ∙ ap (way_byte_fits (file_head file) (stop_at file i) (8 + q)) (sym byte)
      ∙ ap (λ x. byte_fits (file_head file) x body (8 + q)) (sym (content_ways file i h)) ∙ rule)

  pub entry_fits_lem : (i t : ℕ) → i < n → t < 256 → entry_fits (file_head file) (stop_at file i) t (entry_at file i t) ≡ true
  entry_fits_lem i t h l =
      let byte = get_or file (512 * (i + 1) + 8 + t / 2) 0 in
      let p = pair_fits i (t / 2) h (omega arith) in
      ⊎_elim
      (λ (e : t % 2 ≡ 0). let same : 2 * (t / 2) ≡ t = omega arith in
      ap (entry_fits (file_head file) (stop_at file i) t) (cond-true _ _ _ (eq-eqb (t % 2) 0 e))
      ∙ ap (λ u. entry_fits (file_head file) (stop_at file i) u (byte / 16)) (sym same) ∙ p.0)
      (λ e. let same : 2 * (t / 2) + 1 ≡ t = omega (arith, e) in
      ap (entry_fits (file_head file) (stop_at file i) t) (cond-false _ _ _ (ne_eqb (t % 2) 0 e))
      ∙ ap (λ u. entry_fits (file_head file) (stop_at file i) u (byte % 16)) (sym same) ∙ p.1)
      (cases_eq (t % 2) 0)

  told : (stop t e : ℕ) → entry_fits (file_head file) stop t e ≡ true → (e ≡ 15) ⊎ ((e < 4) × (on_floor (get_or file 4 0) (get_or file 5 0) t ≡ true) × (t ≡ stop → ⊥))
  told stop t e h = grind (arith, nat_tests)

  -- a byte of a key, two to a segment
  pub key_fits : (j q : ℕ) → j < 8 → q < 256 → (eqb (get_or file (512 * (n + 1 + j) + (8 + q)) 0) 0 || is_there (file_head file) (128 * j + q / 2)) ≡ true
  key_fits j q h l =
      let body = drop 4 (block_at file (n + 1 + j)) in
      let rule : byte_fits (file_head file) (content_at file (n + 1 + j)) body (8 + q) ≡ true = (f.blocks (n + 1 + j) (omega arith)).bytes (8 + q) (omega arith) (omega arith) in
      let byte = in_block file (n + 1 + j) (8 + q) (omega arith) (omega arith) in
      sym (at_keys (file_head file) j q (get_or file (512 * (n + 1 + j) + (8 + q)) 0) l)
      ∙ ap (key_byte_fits (file_head file) j (8 + q)) (sym byte)
      ∙ ap (λ x. byte_fits (file_head file) x body (8 + q)) (sym (content_keys file j)) ∙ rule

  missing : (j q : ℕ) → j < 8 → q < 256 → is_there (file_head file) (128 * j + q / 2) ≡ false → get_or file (512 * (n + 1 + j) + (8 + q)) 0 ≡ 0
  missing j q h l e = let h = key_fits j q h l in grind (arith, nat_tests)

  keys : (s : ℕ) → is_there (file_head file) s ≡ false → key_in file s ≡ 0
  keys s e =
      ⊎_elim
      (λ (h : s < 1024).
      let j = s / 128 in
      let r = s % 128 in
      let one : 128 * j + 2 * r / 2 ≡ s = omega arith in
      let two : 128 * j + (2 * r + 1) / 2 ≡ s = omega arith in
      let first = missing j (2 * r) (omega arith) (omega arith) (ap (is_there (file_head file)) one ∙ e) in
      let second = missing j (2 * r + 1) (omega arith) (omega arith) (ap (is_there (file_head file)) two ∙ e) in
      let at : 512 * (n + 1 + j) + (8 + 2 * r) ≡ key_place file s = omega arith in
      let next : 512 * (n + 1 + j) + (8 + (2 * r + 1)) ≡ key_place file s + 1 = omega arith in
      let high = ap (λ p. get_or file p 0) (sym at) ∙ first in
      let low = ap (λ p. get_or file p 0) (sym next) ∙ second in
      cond-true _ _ _ (lt-ltb s 1024 h) ∙ ap (λ x. x * 256 + get_or file (key_place file s + 1) 0) high ∙ ap (λ x. 0 * 256 + x) low)
      (λ h. cond-false _ _ _ (le-ltb s 1024 h))
      (cases_lt s 1024)

  pub holds : AllBytes file → PlanHolds file
  holds all =
      record {
        bytes = all;
        wide = size _ (ap size_fits (sym (in_head 4 (omega arith) (omega arith))) ∙ head_byte_lem 4 (omega arith) (omega arith));
        high = size _ (ap size_fits (sym (in_head 5 (omega arith) (omega arith))) ∙ head_byte_lem 5 (omega arith) (omega arith));
        few = few;
        there = there;
        rising = rising;
        entries = λ i t h l. told _ _ _ (entry_fits_lem i t h l);
        keys = keys;
      }

  -- a block with one byte changed has another sum
  pub one_byte_refused : AllBytes file → OneByteRefused file
  one_byte_refused all k i block head content number h bytes only =
      let was = block_at file k in
      let long = f.long in
      let size : length was ≡ 4 * 128 = length-take-le 512 (drop (512 * k) file) (omega (arith, length-drop (512 * k) file)) in
      let adds = (f.blocks k h).adds in
      let fails : adds_up block ≡ false = ne_eqb _ _ (λ e. one_byte i 128 was block (block_bytes file all k) bytes size only (e ∙ sym adds)) in
      ap (λ t. judged number t (front_fits number content block) (body_fits head content (drop 4 block))) fails

  rising_on : (k i : ℕ) → k + i + 1 < n → stop_at file k < stop_at file (k + i + 1)
  rising_on k zero h = let at : k + 0 + 1 ≡ k + 1 = omega arith in rw at (rising k (omega arith))
  rising_on k (suc i) h =
      let at : k + suc i ≡ k + i + 1 = omega arith in
      let before = rising_on k i (omega arith) in
      let next = rising (k + i + 1) (omega arith) in
      rw at (omega arith)

  -- the stops differ, so that a search for one finds it
  pub place_of_stop : (i : ℕ) → i < n → place_of file (stop_at file i) ≡ Some i
  place_of_stop i h =
      seek_finds file (stop_at file i) n i h refl
      (λ k l e. let at : k + (i - k - 1) + 1 ≡ i = omega arith in let less = rw at at (rising_on k (i - k - 1) (omega arith)) in omega arith)

  pub way_to_stop : (i t : ℕ) → i < n → way_in file t (stop_at file i) ≡ entry_way (entry_at file i t)
  way_to_stop i t h = ap (way_to file t) (place_of_stop i h)
