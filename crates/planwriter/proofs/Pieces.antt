-- What writes into a part of a buffer leave.
use Rattle.std.proofs.Common.{◌≡◌, ℕ, zero, suc, ◌+◌, ◌-◌, ◌*◌, ◌<◌, ◌≤◌, List, [], ◌++◌, map, length, take, drop, Option, sym, refl, ap, ◌∙◌, arith}
use borrow.Rule.Slice.PartMut.{put_mid}
use Rattle.std.proofs.lemmas.List.FromFn.{length-map-range_with_len}
use Rattle.std.proofs.lemmas.List.{drop-drop, drop_all, length-append, take-append-drop, append_assoc, append-nil}
use Rattle.std.proofs.lemmas.Slice.{take-put_mid, drop-put_mid}
use Rattle.std.specs.List.{range_with_len}
use Rattle.blocks.specs.Words.{word_sum, closed, big_endian, last_word}
use Rattle.planfile.specs.declared.block.Content.{Content}
use Rattle.map.specs.declared.side.Side.{Side}
use Rattle.map.specs.Layouts.{Layout}
use Rattle.planwriter.specs.Stops.{stops_of}
use Rattle.planwriter.specs.Files.{Source, source_of, block_byte, block_of, content_of, blocks_from, file_of}

-- after a write to the last four bytes
pub put_last : (xs ys : List ℕ) → length xs ≡ 512 → put_mid 508 4 xs ys ≡ take 508 xs ++ ys
put_last xs ys e =
    let none : drop 4 (drop 508 xs) ≡ [] = drop-drop 4 508 xs ∙ drop_all 512 xs (omega arith) in
    ap (λ r. take 508 xs ++ (ys ++ r)) none ∙ ap (λ r. take 508 xs ++ r) (append-nil ys)

-- 508 bytes of a block, and the word behind them
pub closed_block : (source : Source) (content : Content) (number : ℕ) (xs last : List ℕ) → length xs ≡ 512
    → take 508 xs ≡ map (block_byte source content number) (range_with_len 0 508) → last ≡ big_endian (4294967295 - word_sum (take 508 xs)) → put_mid 508 4 xs last ≡ block_of source content number
unfolding block_of
closed_block source content number xs last long front is =
    put_last xs last long ∙ ap (λ l. take 508 xs ++ l) is ∙ ap closed front

pub block_long : (source : Source) (content : Content) (number : ℕ) → length (block_of source content number) ≡ 512
unfolding block_of
block_long source content number =
    let front = map (block_byte source content number) (range_with_len 0 508) in
    length-append front (big_endian (last_word front)) ∙ ap (λ n. n + 4) (length-map-range_with_len (block_byte source content number) 0 508)

-- a block of the same floor, way-finder and keys
pub block_moved : {D : Type 0} (first : D → ℕ → ℕ → ℕ) (way : D → ℕ → ℕ → ℕ → Option (Side × ℕ)) {l m : Layout} {d e : D} {ks keys block : List ℕ} (k : ℕ) → l ≡ m → d ≡ e → ks ≡ keys
    → block ≡ block_of (source_of l (first d) (way d) ks) (content_of (stops_of l) k) k → block ≡ block_of (source_of m (first e) (way e) keys) (content_of (stops_of m) k) k
block_moved first way k p q r is = cc

module _ (source : Source) where
  abbrev block_no : ℕ → List ℕ
  block_no k = block_of source (content_of source.stops k) k

  step : (m k : ℕ) → 0 < m → blocks_from source m k ≡ block_no k ++ blocks_from source (m - 1) (k + 1)
  unfolding blocks_from
  step zero k h = absurd (omega arith)
  step (suc m) k h = let e : m ≡ suc m - 1 = omega arith in ap (λ j. block_no k ++ blocks_from source j (k + 1)) e

  nothing : (k : ℕ) → blocks_from source 0 k ≡ []
  unfolding blocks_from
  nothing k = refl

  pub blocks_long : (m k : ℕ) → length (blocks_from source m k) ≡ 512 * m
  unfolding blocks_from
  blocks_long zero k = refl
  blocks_long (suc m) k =
      let long = length-append (block_no k) (blocks_from source m (k + 1)) in
      let here = block_long source (content_of source.stops k) k in
      let rest = blocks_long m (k + 1) in
      omega arith

  -- the blocks before block k stand, and the bytes behind them are as they were
  pub record Standing (was is : List ℕ) (k : ℕ) : Type 0 where
    pub done : take (512 * k) is ++ blocks_from source (length source.stops + 9 - k) k ≡ file_of source
    pub rest : drop (512 * k) is ≡ drop (512 * k) was

  pub standing_more : (was is block : List ℕ) (k : ℕ) → k < length source.stops + 9 → 512 * (length source.stops + 9) ≤ length is
      → block ≡ block_no k → Standing was is k → Standing was (put_mid (512 * k) (512 * k + 512 - 512 * k) is block) (k + 1)
  standing_more was is block k h fits e s =
      let n = length source.stops + 9 in
      let size : 512 * k + 512 - 512 * k ≡ 512 = omega arith in
      let whole : length block ≡ 512 = ap length e ∙ block_long source (content_of source.stops k) k in
      let on : 512 * k + 512 ≡ 512 * (k + 1) = omega arith in
      let less : n - k - 1 ≡ n - (k + 1) = omega arith in
      let front = take-put_mid (512 * k) (512 * k + 512 - 512 * k) is block (512 * (k + 1)) (omega arith) (omega arith) in
      record {
        done =
            ap (λ l. l ++ blocks_from source (n - (k + 1)) (k + 1)) (front ∙ ap (λ b. take (512 * k) is ++ b) e)
            ∙ append_assoc (take (512 * k) is) (block_no k) (blocks_from source (n - (k + 1)) (k + 1))
            ∙ ap (λ j. take (512 * k) is ++ (block_no k ++ blocks_from source j (k + 1))) (sym less)
            ∙ ap (λ l. take (512 * k) is ++ l) (sym (step (n - k) k (omega arith))) ∙ s.done;
        rest =
            drop-put_mid (512 * k) (512 * k + 512 - 512 * k) is block (512 * (k + 1)) (omega arith) (omega arith) (omega arith)
            ∙ ap (λ j. drop j is) (sym on) ∙ sym (drop-drop 512 (512 * k) is) ∙ ap (drop 512) s.rest ∙ drop-drop 512 (512 * k) was ∙ ap (λ j. drop j was) on;
      }

  pub standing_all : (was is : List ℕ) (k : ℕ) → k ≡ length source.stops + 9 → Standing was is k → is ≡ file_of source ++ drop (512 * k) was
  standing_all was is k e s =
      let none : length source.stops + 9 - k ≡ 0 = omega arith in
      let file : take (512 * k) is ≡ file_of source =
      sym (append-nil (take (512 * k) is)) ∙ ap (λ l. take (512 * k) is ++ l) (sym (ap (λ j. blocks_from source j k) none ∙ nothing k)) ∙ s.done in
      sym (take-append-drop (512 * k) is) ∙ ap (λ l. l ++ drop (512 * k) is) file ∙ ap (λ l. file_of source ++ l) s.rest
