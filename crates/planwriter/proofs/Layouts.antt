-- A written file is of the layout.
use Rattle.std.proofs.Common.{◌≡◌, ℕ, ◌+◌, ◌-◌, ◌*◌, ◌/◌, ◌%◌, ◌<◌, ◌≤◌, true, eqb, List, map, length, get_or, drop, sym, ap, ◌∙◌, subst, ⊎_elim, arith}
use Rattle.std.proofs.lemmas.Nat.{div-mul-add, mod-mul-add}
use Rattle.std.proofs.lemmas.List.FromFn.{length-map-range_with_len}
use Rattle.std.proofs.lemmas.List.{get_or-drop, get_or_past}
use Rattle.std.proofs.lemmas.Bool.{cases_Bool, cases_eq, eq-eqb, lt-ltb, and_from, or_left, or_right}
use Rattle.std.proofs.lemmas.Bool.Decides.{nat_tests}
use Rattle.std.specs.List.{range_with_len}
use Rattle.map.specs.Floors.{on_floor}
use Rattle.blocks.specs.Words.{word_sum}
use Rattle.blocks.proofs.Sums.{sum_closed}
use Rattle.planfile.specs.declared.block.Head.{Head}
use Rattle.planfile.specs.declared.block.Content.{Content}
use Rattle.planfile.specs.declared.block.Content.TheVariants.{Stops, Ways, Keys}
use Rattle.planfile.specs.Layouts.{in_body, stop_fits, head_byte_fits, entry_fits, way_byte_fits, is_there, key_byte_fits, byte_fits}
use Rattle.planfile.specs.Outcomes.{block_at, content_at}
use Rattle.planfile.specs.Promises.{GoodBlock, PlanFile}
use Rattle.planwriter.specs.Files.{Source, head_byte, way_byte, key_half, key_byte, content_byte, block_byte, block_of, content_of, file_of}
use Rattle.planwriter.proofs.Regions.{written_fits, head_written_fits}
use Rattle.planwriter.proofs.Pieces.{blocks_long}
use Rattle.planwriter.proofs.Sources.{Sound}
use Rattle.planwriter.proofs.Spots.{block_byte_lem, content_byte_lem, block_is, stop_byte, count_is, head_is, content_is}

block_adds : (source : Source) (content : Content) (number : ℕ) → word_sum (block_of source content number) ≡ 4294967295
unfolding block_of
block_adds source content number = sum_closed (map (block_byte source content number) (range_with_len 0 508)) 127 (length-map-range_with_len (block_byte source content number) 0 508)

zero_fits : (b : ℕ) → b ≡ 0 → eqb b 0 ≡ true
zero_fits b e = eq-eqb b 0 e

module _ (source : Source) (sound : Sound source) where
  abbrev head : Head
  head = source.head

  abbrev stops : List ℕ
  stops = source.stops

  -- the bytes of a head, under the reader's rules
  module _ (body : List ℕ) (at : (q : ℕ) → 4 ≤ q → q < 508 → in_body body q ≡ head_byte head stops q) where
    at_stop : (p : ℕ) → 8 ≤ p → p < 508 → in_body body p ≡ get_or stops (p - 8) 0
    at_stop p low high = at p (omega arith) high ∙ stop_byte source p low

    stop_fits_lem : (p : ℕ) → 8 ≤ p → p < 8 + length stops → stop_fits head body p ≡ true
    stop_fits_lem p low high =
        let few = sound.few in
        let here = at_stop p low (omega arith) in
        and_from _ _ (ap (on_floor head.width head.height) here ∙ sound.there (p - 8) (omega arith))
        (⊎_elim (λ (e : p ≡ 8). or_left _ _ (eq-eqb p 8 e))
        (λ ne.
        let before = at_stop (p - 1) (omega (arith, ne)) (omega arith) in
        let up = sound.rising (p - 1 - 8) (omega (arith, ne)) in
        let next : p - 1 - 8 + 1 ≡ p - 8 = omega (arith, ne) in
        let less = rw next at up in
        or_right _ _ (lt-ltb (in_body body (p - 1)) (in_body body p) (omega arith)))
        (cases_eq p 8))

    head_fits : (p : ℕ) → 4 ≤ p → p < 508 → head_byte_fits head body p ≡ true
    head_fits p low high =
        let few = sound.few in
        let count = sound.count in
        head_written_fits p (in_body body p) head.width head.height head.count (get_or stops (p - 8) 0) _ (at p low high) sound.wide sound.high (omega arith)
        (λ from to. stop_fits_lem p from (omega arith)) (λ past. get_or_past stops (p - 8) 0 (omega arith))

  -- two entries in a byte
  ways_fit : (stop p byte : ℕ) → 4 ≤ p → p < 508 → byte ≡ way_byte source.entry stop p → way_byte_fits head stop p byte ≡ true
  ways_fit stop p byte low high is =
      let e = source.entry stop in
      let first = 2 * (p - 8) in
      let less = sound.small stop (first + 1) in
      written_fits 136 p byte stop (e first * 16 + e (first + 1)) _ is
      (λ from to whole.
      let hi = ap (λ m. m / 16) whole ∙ div-mul-add (e first) 16 (e (first + 1)) less in
      let lo = ap (λ m. m % 16) whole ∙ mod-mul-add (e first) 16 (e (first + 1)) less in
      and_from _ _ (ap (entry_fits head stop first) hi ∙ sound.entries stop first) (ap (entry_fits head stop (first + 1)) lo ∙ sound.entries stop (first + 1)))

  half_zero : (p k : ℕ) → k ≡ 0 → key_half p k ≡ 0
  half_zero p k e = grind (arith, nat_tests)

  keys_fit : (part p byte : ℕ) → 4 ≤ p → p < 508 → byte ≡ key_byte source.key part p → key_byte_fits head part p byte ≡ true
  keys_fit part p byte low high is =
      let segment = 128 * part + (p - 8) / 2 in
      written_fits 264 p byte part (key_half p (source.key segment)) _ is
      (λ from to whole.
      ⊎_elim (λ there. or_right _ _ there) (λ gone. or_left _ _ (zero_fits byte (whole ∙ half_zero p _ (sound.missing segment gone)))) (cases_Bool (is_there head segment)))

  bytes_fit : (content : Content) (body : List ℕ) → ((q : ℕ) → 4 ≤ q → q < 508 → in_body body q ≡ content_byte source content q)
      → (p : ℕ) → 4 ≤ p → p < 508 → byte_fits head content body p ≡ true
  bytes_fit Stops body at p low high = head_fits body at p low high
  bytes_fit (Ways stop) body at p low high = ways_fit stop p _ low high (at p low high)
  bytes_fit (Keys part) body at p low high = keys_fit part p _ low high (at p low high)

  good : (content : Content) (number : ℕ) → GoodBlock head content number (block_of source content number)
  good content number =
      let block = block_of source content number in
      record {
        adds = block_adds source content number;
        front = record {
          kind = block_byte_lem source content number 0 (omega arith);
          place = block_byte_lem source content number 1 (omega arith);
          third = block_byte_lem source content number 2 (omega arith);
          fourth = block_byte_lem source content number 3 (omega arith);
        };
        bytes = bytes_fit content (drop 4 block)
            (λ q low high. let at : 4 + (q - 4) ≡ q = omega arith in
            get_or-drop 4 block (q - 4) 0 ∙ ap (λ i. get_or block i 0) at ∙ block_byte_lem source content number q high ∙ content_byte_lem source content number q low);
      }

  pub of_layout : PlanFile (file_of source)
  of_layout =
      let file = file_of source in
      let n = count_is source sound in
      record {
        long = blocks_long source (length stops + 9) 0 ∙ ap (λ m. 512 * (m + 9)) (sym n);
        blocks = λ k h.
            let here : GoodBlock head (content_of stops k) k (block_of source (content_of stops k) k) = good (content_of stops k) k in
            let one = subst (λ b. GoodBlock head (content_of stops k) k b) (sym (block_is source k (omega arith))) here in
            let two = subst (λ c. GoodBlock head c k (block_at file k)) (sym (content_is source sound k)) one in
            subst (λ x. GoodBlock x (content_at file k) k (block_at file k)) (sym (head_is source sound)) two;
      }
