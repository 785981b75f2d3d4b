-- A plan that was read and is written again gives its bytes again.
use Rattle.std.proofs.Common.{◌≡◌, ℕ, zero, suc, ◌+◌, ◌-◌, ◌*◌, ◌/◌, ◌%◌, ◌<◌, ◌≤◌, Bool, true, false, not, ◌&&◌, eqb, ◌⊎◌, List, ◌++◌, length, get_or, take, drop, Option, sym, refl, ap, ◌∙◌, inl, inr, ⊎_elim, arith}
use Rattle.std.proofs.lemmas.Nat.{div-mul-add, mod-mul-add, div-add-mod'}
use Rattle.std.proofs.lemmas.List.FromFn.{fill_by_all}
use Rattle.std.proofs.lemmas.List.{get_or-take, get_or-drop, get_or_past, length-take-le, length-drop, drop-drop, drop_all, take-append-drop}
use Rattle.std.proofs.lemmas.Bool.{cases_eq, cases_lt, eq-eqb, ne_eqb, lt-ltb, le-ltb, cond-true, cond-false, and_from, not_from_false, both_ways}
use Rattle.std.proofs.lemmas.Bool.Decides.{nat_tests}
use Rattle.map.specs.declared.side.Side.{Side}
use Rattle.map.specs.Floors.{on_floor}
use Rattle.map.specs.Layouts.{Layout}
use Rattle.blocks.specs.Words.{closed}
use Rattle.blocks.specs.Changes.{AllBytes}
use Rattle.blocks.proofs.Sums.{closed_back}
use Rattle.planfile.specs.declared.block.Content.{Content}
use Rattle.planfile.specs.declared.block.Content.TheVariants.{Stops, Ways, Keys}
use Rattle.planfile.specs.Layouts.{in_body, way_byte_fits, is_there, key_byte_fits, byte_fits}
use Rattle.planfile.specs.Outcomes.{kind_of, file_head, block_at, content_at}
use Rattle.planfile.specs.Plans.{stop_at, entry_at, entry_way, key_place, key_in}
use Rattle.planfile.specs.Promises.{PlanFile, PlanHolds}
use Rattle.planfile.proofs.Spots.{at_block, in_block}
use Rattle.planfile.proofs.Contents.{content_ways, content_keys, few, holds, way_to_stop, block_bytes}
use Rattle.planwriter.specs.Stops.{stops_of}
use Rattle.planwriter.specs.Files.{Source, entry_number, entry_for, key_for, head_for, source_of, head_byte, way_byte, key_half, key_byte, content_byte, block_byte, block_of, content_of, blocks_from, file_of}
use Rattle.planwriter.specs.Promises.{SamePlan}
use Rattle.planwriter.proofs.Regions.{fitting_written, head_fitting_written}
use Rattle.planwriter.proofs.Spots.{head_with, content_agrees}

-- the part of a segment, and its place there
row_is : (j r : ℕ) → r < 128 → (128 * j + r) / 128 ≡ j
row_is j r h = grind (arith, nat_tests)

column_is : (j r : ℕ) → r < 128 → (128 * j + r) % 128 ≡ r
column_is j r h = grind (arith, nat_tests)

-- the number of an entry's way is the entry
entry_again : (e : ℕ) → (e ≡ 15) ⊎ (e < 4) → entry_number (entry_way e) ≡ e
entry_again e (inl h) = ap (λ x. entry_number (entry_way x)) h ∙ sym h
entry_again zero (inr h) = refl
entry_again (suc zero) (inr h) = refl
entry_again (suc (suc zero)) (inr h) = refl
entry_again (suc (suc (suc zero))) (inr h) = refl
entry_again (suc (suc (suc (suc e)))) (inr h) = absurd (omega arith)

module _ (layout : Layout) (first : ℕ → ℕ → ℕ) (way : ℕ → ℕ → ℕ → Option (Side × ℕ)) (keys file : List ℕ) (all : AllBytes file) (f : PlanFile file) (same : SamePlan layout way keys file) where
  abbrev source : Source
  source = source_of layout first way keys

  abbrev n : ℕ
  n = get_or file 6 0

  told : PlanHolds file
  told = holds file f all

  count_same : length (stops_of layout) ≡ n
  count_same =
      let l = few file f in
      let long = f.long in
      ap length same.stops ∙ length-take-le n (drop 8 file) (omega (arith, length-drop 8 file))

  stop_same : (i : ℕ) → i < n → get_or (stops_of layout) i 0 ≡ stop_at file i
  stop_same i h = ap (λ l. get_or l i 0) same.stops ∙ get_or-take n (drop 8 file) i 0 h ∙ get_or-drop 8 file i 0

  head_same : head_for layout ≡ file_head file
  head_same =
      ap (λ w. head_with w layout.height (length (stops_of layout))) same.width ∙ ap (λ h. head_with (get_or file 4 0) h (length (stops_of layout))) same.height
      ∙ ap (head_with (get_or file 4 0) (get_or file 5 0)) count_same

  content_same : (k : ℕ) → content_of (stops_of layout) k ≡ content_at file k
  content_same k = let c = count_same in sym (content_agrees file (stops_of layout) (sym c) (λ i h. sym (stop_same i (omega arith))) k)

  -- the layout's rule for a byte, by what its block holds
  rule : (k p : ℕ) (content : Content) → k < n + 9 → 4 ≤ p → p < 508 → content_at file k ≡ content → byte_fits (file_head file) content (drop 4 (block_at file k)) p ≡ true
  rule k p content h low high e = ap (λ c. byte_fits (file_head file) c (drop 4 (block_at file k)) p) (sym e) ∙ (f.blocks k h).bytes p low high

  -- the head
  head_byte_lem : (p : ℕ) → 4 ≤ p → p < 508 → head_byte (head_for layout) (stops_of layout) p ≡ get_or file (512 * 0 + p) 0
  head_byte_lem p low high =
      let l = few file f in
      let c = count_same in
      let byte = in_block file 0 p low (omega arith) in
      let from : (q : ℕ) → q ≡ p → get_or file q 0 ≡ in_body (drop 4 (block_at file 0)) p = λ q e. let is : q ≡ 512 * 0 + p = omega arith in ap (λ m. get_or file m 0) is ∙ sym byte in
      head_fitting_written p (in_body (drop 4 (block_at file 0)) p) layout.width layout.height (length (stops_of layout)) n (get_or (stops_of layout) (p - 8) 0) _ _ _
      (rule 0 p Stops (omega arith) low high refl) low
      (λ e. same.width ∙ from 4 (sym e)) (λ e. same.height ∙ from 5 (sym e)) (λ e. c ∙ from 6 (sym e))
      (λ low high. stop_same (p - 8) (omega arith) ∙ from (8 + (p - 8)) (omega arith)) (λ past. get_or_past (stops_of layout) (p - 8) 0 (omega arith))
      ∙ byte

  -- an entry that is written again
  entry_same : (i t : ℕ) → i < n → t < 256 → entry_for (head_for layout) first way (stop_at file i) t ≡ entry_at file i t
  entry_same i t h l =
      ap (λ x. entry_for x first way (stop_at file i) t) head_same ∙ go _ refl
    where
      go : (b : Bool) → (on_floor (get_or file 4 0) (get_or file 5 0) t && not (eqb t (stop_at file i))) ≡ b → entry_for (file_head file) first way (stop_at file i) t ≡ entry_at file i t
      go true e =
          cond-true _ _ _ e ∙ ap entry_number (same.ways t (stop_at file i) (first t (stop_at file i)) ∙ way_to_stop file f i t h)
          ∙ entry_again (entry_at file i t) (⊎_elim (λ a. inl a) (λ a. inr a.0) (told.entries i t h l))
      go false e =
          cond-false _ _ _ e
          ∙ sym (⊎_elim (λ a. a) (λ a. absurd (both_ways _ e (and_from _ _ a.1 (not_from_false _ (ne_eqb _ _ a.2))))) (told.entries i t h l))

  way_byte_lem : (i p : ℕ) → i < n → 4 ≤ p → p < 508 → way_byte (entry_for (head_for layout) first way) (stop_at file i) p ≡ get_or file (512 * (i + 1) + p) 0
  way_byte_lem i p h low high =
      let byte = get_or file (512 * (i + 1) + p) 0 in
      let stop = stop_at file i in
      let at = in_block file (i + 1) p low (omega arith) in
      let told : way_byte_fits (file_head file) stop p byte ≡ true = ap (way_byte_fits (file_head file) stop p) (sym at) ∙ rule (i + 1) p (Ways stop) (omega arith) low high (content_ways file i h) in
      fitting_written 136 p byte stop _ _ told
      (λ from to.
      let q = p - 8 in
      let spot : (t : ℕ) → t / 2 ≡ q → get_or file (512 * (i + 1) + 8 + t / 2) 0 ≡ byte = λ t e. let is : 512 * (i + 1) + 8 + t / 2 ≡ 512 * (i + 1) + p = omega arith in ap (λ m. get_or file m 0) is in
      let even : 2 * q % 2 ≡ 0 = omega arith in
      let half : 2 * q / 2 ≡ q = omega arith in
      let half' : (2 * q + 1) / 2 ≡ q = omega arith in
      let hi = entry_same i (2 * q) h (omega arith) ∙ cond-true _ _ _ (eq-eqb (2 * q % 2) 0 even) ∙ ap (λ m. m / 16) (spot (2 * q) half) in
      let lo = entry_same i (2 * q + 1) h (omega arith) ∙ cond-false _ _ _ (ne_eqb ((2 * q + 1) % 2) 0 (λ e. omega arith)) ∙ ap (λ m. m % 16) (spot (2 * q + 1) half') in
      ap (λ m. m * 16 + entry_for (head_for layout) first way stop (2 * q + 1)) hi ∙ ap (λ m. byte / 16 * 16 + m) lo ∙ div-add-mod' byte 16)

  key_same : (s : ℕ) → s < 1024 → key_for (head_for layout) keys s ≡ key_in file s
  key_same s h = ap (λ x. key_for x keys s) head_same ∙ go _ refl
    where
      go : (b : Bool) → is_there (file_head file) s ≡ b → key_for (file_head file) keys s ≡ key_in file s
      go true e = cond-true _ _ _ e ∙ same.each_key s h
      go false e = cond-false _ _ _ e ∙ sym (told.keys s e)

  key_byte_same : (j p : ℕ) → j < 8 → 4 ≤ p → p < 508 → key_byte (key_for (head_for layout) keys) j p ≡ get_or file (512 * (n + 1 + j) + p) 0
  key_byte_same j p h low high =
      let byte = get_or file (512 * (n + 1 + j) + p) 0 in
      let at = in_block file (n + 1 + j) p low (omega arith) in
      let told : key_byte_fits (file_head file) j p byte ≡ true = ap (key_byte_fits (file_head file) j p) (sym at) ∙ rule (n + 1 + j) p (Keys j) (omega arith) low high (content_keys file j) in
      fitting_written 264 p byte j _ _ told
      (λ from to.
      let s = 128 * j + (p - 8) / 2 in
      let within : s < 1024 = omega arith in
      let row = row_is j ((p - 8) / 2) (omega arith) in
      let column = column_is j ((p - 8) / 2) (omega arith) in
      let hi = get_or file (key_place file s) 0 in
      let lo = get_or file (key_place file s + 1) 0 in
      let hi-fits = all (key_place file s) in
      let lo-fits = all (key_place file s + 1) in
      let key = key_same s within ∙ cond-true _ _ _ (lt-ltb s 1024 within) in
      ap (key_half p) key
      ∙ ⊎_elim
      (λ (even : p % 2 ≡ 0).
      let is : key_place file s ≡ 512 * (n + 1 + j) + p = omega arith in
      let top = div-mul-add hi 256 lo lo-fits in
      let fits : (hi * 256 + lo) / 256 % 256 ≡ hi = omega arith in
      cond-true _ _ _ (eq-eqb (p % 2) 0 even) ∙ fits ∙ ap (λ m. get_or file m 0) is)
      (λ odd.
      let is : key_place file s + 1 ≡ 512 * (n + 1 + j) + p = omega (arith, odd) in
      cond-false _ _ _ (ne_eqb (p % 2) 0 odd) ∙ mod-mul-add hi 256 lo lo-fits ∙ ap (λ m. get_or file m 0) is)
      (cases_eq (p % 2) 0))

  -- each byte before the last word
  byte_same : (k p : ℕ) → k < n + 9 → p < 508 → block_byte source (content_of (stops_of layout) k) k p ≡ get_or file (512 * k + p) 0
  byte_same k p h l =
      let front = (f.blocks k h).front in
      ⊎_elim
      (λ (a : p < 1). let z : 0 ≡ p = omega arith in
      cond-true _ _ _ (lt-ltb p 1 a) ∙ ap kind_of (content_same k) ∙ sym front.kind ∙ at_block file k 0 (omega arith) ∙ ap (λ q. get_or file (512 * k + q) 0) z)
      (λ a. cond-false _ _ _ (le-ltb p 1 a)
      ∙ ⊎_elim
      (λ (b : p < 2). let z : 1 ≡ p = omega arith in
      cond-true _ _ _ (lt-ltb p 2 b) ∙ sym front.place ∙ at_block file k 1 (omega arith) ∙ ap (λ q. get_or file (512 * k + q) 0) z)
      (λ b. cond-false _ _ _ (le-ltb p 2 b)
      ∙ ⊎_elim
      (λ (d : p < 4). cond-true _ _ _ (lt-ltb p 4 d)
      ∙ ⊎_elim
      (λ (e : p < 3). let z : 2 ≡ p = omega arith in sym front.third ∙ at_block file k 2 (omega arith) ∙ ap (λ q. get_or file (512 * k + q) 0) z)
      (λ e. let z : 3 ≡ p = omega arith in sym front.fourth ∙ at_block file k 3 (omega arith) ∙ ap (λ q. get_or file (512 * k + q) 0) z)
      (cases_lt p 3))
      (λ d. cond-false _ _ _ (le-ltb p 4 d) ∙ ap (λ c. content_byte source c p) (content_same k) ∙ content_bytes k p h d l)
      (cases_lt p 4))
      (cases_lt p 2))
      (cases_lt p 1)
    where
      content_bytes : (k p : ℕ) → k < n + 9 → 4 ≤ p → p < 508 → content_byte source (content_at file k) p ≡ get_or file (512 * k + p) 0
      content_bytes k p h low high =
          ⊎_elim
          (λ (z : k ≡ 0). ap (λ j. content_byte source (content_at file j) p) z ∙ head_byte_lem p low high ∙ ap (λ j. get_or file (512 * j + p) 0) (sym z))
          (λ ne. ⊎_elim
          (λ (w : k < n + 1). let at : k ≡ k - 1 + 1 = omega (arith, ne) in
          ap (λ j. content_byte source (content_at file j) p) at
          ∙ ap (λ c. content_byte source c p) (content_ways file (k - 1) (omega (arith, ne)))
          ∙ way_byte_lem (k - 1) p (omega (arith, ne)) low high ∙ ap (λ j. get_or file (512 * j + p) 0) (sym at))
          (λ w. let at : k ≡ n + 1 + (k - (n + 1)) = omega arith in
          ap (λ j. content_byte source (content_at file j) p) at
          ∙ ap (λ c. content_byte source c p) (content_keys file (k - (n + 1)))
          ∙ key_byte_same (k - (n + 1)) p (omega arith) low high ∙ ap (λ j. get_or file (512 * j + p) 0) (sym at))
          (cases_lt k (n + 1)))
          (cases_eq k 0)

  -- each block, its last word with it
  block_same : (k : ℕ) → k < n + 9 → block_of source (content_of (stops_of layout) k) k ≡ block_at file k
  unfolding block_of
  block_same k h =
      let b = block_at file k in
      let long = f.long in
      let size : length b ≡ 512 = length-take-le 512 (drop (512 * k) file) (omega (arith, length-drop (512 * k) file)) in
      ap closed
      (sym
      (fill_by_all (block_byte source (content_of (stops_of layout) k) k) (take 508 b) 508 0 (length-take-le 508 b (omega arith))
      (λ p l. get_or-take 508 b p 0 l ∙ at_block file k p (omega arith) ∙ sym (byte_same k p h l))))
      ∙ closed_back b size (block_bytes file all k) (f.blocks k h).adds

  blocks_same : (m k : ℕ) → k + m ≡ n + 9 → blocks_from source m k ≡ drop (512 * k) file
  unfolding blocks_from
  blocks_same zero k w = let long = f.long in sym (drop_all (512 * k) file (omega arith))
  blocks_same (suc m) k w =
      let on : 512 * (k + 1) ≡ 512 * k + 512 = omega arith in
      ap (λ b. b ++ blocks_from source m (k + 1)) (block_same k (omega arith))
      ∙ ap (λ l. block_at file k ++ l) (blocks_same m (k + 1) (omega arith) ∙ ap (λ j. drop j file) on ∙ sym (drop-drop 512 (512 * k) file))
      ∙ take-append-drop 512 (drop (512 * k) file)

  pub file_again : file_of source ≡ file
  file_again = blocks_same (length (stops_of layout) + 9) 0 (let c = count_same in omega arith)
