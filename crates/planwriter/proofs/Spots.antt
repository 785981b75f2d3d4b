-- Where the bytes of a written file stand.
use Rattle.std.proofs.Common.{◌≡◌, ℕ, zero, suc, ◌+◌, ◌-◌, ◌*◌, ◌<◌, ◌≤◌, List, ◌++◌, map, length, get_or, take, drop, sym, ap, ◌∙◌, zero-add, arith}
use Rattle.std.proofs.lemmas.List.FromFn.{length-map-range_with_len, get_or-map-range_with_len}
use Rattle.std.proofs.lemmas.List.{take_at, drop_at, drop-drop, get_or_append_left}
use Rattle.std.proofs.lemmas.Bool.Decides.{nat_tests}
use Rattle.std.specs.List.{range_with_len}
use Rattle.blocks.specs.Words.{big_endian, last_word}
use Rattle.planfile.specs.declared.block.Head.{Head}
use Rattle.planfile.specs.declared.block.Content.{Content}
use Rattle.planfile.specs.declared.block.Content.TheVariants.{Stops}
use Rattle.planfile.specs.Outcomes.{block_at, content_at, file_head}
use Rattle.planfile.specs.Plans.{stop_at}
use Rattle.planfile.proofs.Spots.{at_block}
use Rattle.planwriter.specs.Files.{Source, head_byte, content_byte, block_byte, block_of, content_of, blocks_from, file_of}
use Rattle.planwriter.proofs.Pieces.{block_long}
use Rattle.planwriter.proofs.Sources.{Sound}

abbrev pub head_with : ℕ → ℕ → ℕ → Head
head_with w h n = record { width = w; height = h; count = n }

pub block_byte_lem : (source : Source) (content : Content) (number p : ℕ) → p < 508 → get_or (block_of source content number) p 0 ≡ block_byte source content number p
unfolding block_of
block_byte_lem source content number p h =
    let f = block_byte source content number in
    let front = map f (range_with_len 0 508) in
    let long = length-map-range_with_len f 0 508 in
    get_or_append_left front (big_endian (last_word front)) 0 p (omega arith) ∙ get_or-map-range_with_len f 0 508 p p 0 h (omega arith)

-- behind the first four bytes stands the content
pub content_byte_lem : (source : Source) (content : Content) (number p : ℕ) → 4 ≤ p → block_byte source content number p ≡ content_byte source content p
content_byte_lem source content number p h = grind (arith, nat_tests)

-- a file with these stops has this content in each block
pub content_agrees : (file stops : List ℕ) → get_or file 6 0 ≡ length stops → ((i : ℕ) → i < length stops → stop_at file i ≡ get_or stops i 0) → (k : ℕ) → content_at file k ≡ content_of stops k
content_agrees file stops n each k = let s = each (k - 1) in grind (arith, nat_tests)

module _ (source : Source) where
  abbrev pub block_no : ℕ → List ℕ
  block_no k = block_of source (content_of source.stops k) k

  among : (m k j : ℕ) → j < m → take 512 (drop (512 * j) (blocks_from source m k)) ≡ block_no (k + j)
  unfolding blocks_from
  among zero k j h = absurd (omega arith)
  among (suc m) k zero h =
      let here : k ≡ k + 0 = omega arith in
      take_at (block_no k) (blocks_from source m (k + 1)) 512 (block_long source (content_of source.stops k) k) ∙ ap block_no here
  among (suc m) k (suc j) h =
      let rest = blocks_from source m (k + 1) in
      let at : 512 * suc j ≡ 512 + 512 * j = omega arith in
      let next : k + 1 + j ≡ k + suc j = omega arith in
      ap (λ i. take 512 (drop i (block_no k ++ rest))) at
      ∙ ap (take 512) (sym (drop-drop (512 * j) 512 (block_no k ++ rest)) ∙ ap (drop (512 * j)) (drop_at (block_no k) rest 512 (block_long source (content_of source.stops k) k)))
      ∙ among m (k + 1) j (omega arith) ∙ ap block_no next

  pub block_is : (k : ℕ) → k < length source.stops + 9 → block_at (file_of source) k ≡ block_no k
  block_is k h = among (length source.stops + 9) 0 k h ∙ ap block_no (zero-add k)

  pub byte_is : (k p : ℕ) → k < length source.stops + 9 → p < 508 → get_or (file_of source) (512 * k + p) 0 ≡ block_byte source (content_of source.stops k) k p
  byte_is k p h l =
      sym (at_block (file_of source) k p (omega arith)) ∙ ap (λ b. get_or b p 0) (block_is k h) ∙ block_byte_lem source (content_of source.stops k) k p l

  pub stop_byte : (p : ℕ) → 8 ≤ p → head_byte source.head source.stops p ≡ get_or source.stops (p - 8) 0
  stop_byte p h = grind (arith, nat_tests)

  module _ (sound : Sound source) where
    abbrev file : List ℕ
    file = file_of source

    pub width_is : get_or file 4 0 ≡ source.head.width
    width_is = byte_is 0 4 (omega arith) (omega arith)

    pub height_is : get_or file 5 0 ≡ source.head.height
    height_is = byte_is 0 5 (omega arith) (omega arith)

    pub count_is : get_or file 6 0 ≡ length source.stops
    count_is = byte_is 0 6 (omega arith) (omega arith) ∙ sound.count

    pub head_is : file_head file ≡ source.head
    head_is =
        ap (λ w. head_with w (get_or file 5 0) (get_or file 6 0)) width_is ∙ ap (λ h. head_with source.head.width h (get_or file 6 0)) height_is
        ∙ ap (head_with source.head.width source.head.height) (count_is ∙ sym sound.count)

    pub stop_is : (i : ℕ) → i < length source.stops → stop_at file i ≡ get_or source.stops i 0
    stop_is i h =
        let few = sound.few in
        let at : 8 + i ≡ 512 * 0 + (8 + i) = omega arith in
        let back : 8 + i - 8 ≡ i = omega arith in
        ap (λ p. get_or file p 0) at ∙ byte_is 0 (8 + i) (omega arith) (omega arith)
        ∙ content_byte_lem source Stops 0 (8 + i) (omega arith) ∙ stop_byte (8 + i) (omega arith) ∙ ap (λ j. get_or source.stops j 0) back

    pub content_is : (k : ℕ) → content_at file k ≡ content_of source.stops k
    content_is k = content_agrees file source.stops count_is stop_is k
