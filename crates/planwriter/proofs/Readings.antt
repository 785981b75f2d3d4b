-- Read again, a written file gives what was written.
use Rattle.std.proofs.Common.{◌≡◌, ℕ, ◌+◌, ◌*◌, ◌/◌, ◌%◌, ◌<◌, List, length, get_or, sym, ap, ◌∙◌, mod-eq_of_lt, arith}
use Rattle.std.proofs.lemmas.Nat.{div_below}
use Rattle.std.proofs.lemmas.Bool.{eq-eqb, ne_eqb, lt-ltb, cond-true, cond-false}
use Rattle.std.proofs.lemmas.Bool.Decides.{nat_tests}
use Rattle.planfile.specs.declared.block.Content.TheVariants.{Ways, Keys}
use Rattle.planfile.specs.Plans.{half_of, entry_at, entry_way, way_in, key_place, key_in}
use Rattle.planfile.proofs.Contents.{way_to_stop}
use Rattle.planwriter.specs.Files.{Source, way_byte, key_half, key_byte, content_byte, content_of, file_of}
use Rattle.planwriter.specs.Promises.{ReadBack}
use Rattle.planwriter.proofs.Sources.{Sound}
use Rattle.planwriter.proofs.Spots.{content_byte_lem, byte_is, width_is, height_is, count_is, stop_is}
use Rattle.planwriter.proofs.Layouts.{of_layout}

-- the ways and the keys among the blocks
pub ways_at : (stops : List ℕ) (i : ℕ) → i < length stops → content_of stops (i + 1) ≡ Ways (get_or stops i 0)
ways_at stops i h = grind (arith, nat_tests)

pub keys_at : (stops : List ℕ) (j : ℕ) → content_of stops (length stops + 1 + j) ≡ Keys j
keys_at stops j = grind (arith, nat_tests)

pub pair_byte : (entry : ℕ → ℕ → ℕ) (stop q : ℕ) → q < 128 → way_byte entry stop (8 + q) ≡ entry stop (2 * q) * 16 + entry stop (2 * q + 1)
pair_byte entry stop q h = grind (arith, nat_tests)

pub key_byte_lem : (key : ℕ → ℕ) (part q : ℕ) → q < 256 → key_byte key part (8 + q) ≡ key_half (8 + q) (key (128 * part + q / 2))
key_byte_lem key part q h = grind (arith, nat_tests)

-- the half of a byte that holds the entry of table t
pub half_is : (e : ℕ → ℕ) (t : ℕ) → e (2 * (t / 2) + 1) < 16 → half_of t (e (2 * (t / 2)) * 16 + e (2 * (t / 2) + 1)) ≡ e t
half_is e t small = grind (arith, nat_tests)

module _ (source : Source) (sound : Sound source) where
  abbrev file : List ℕ
  file = file_of source

  abbrev n : ℕ
  n = length source.stops

  entry_back : (i t : ℕ) → i < n → t < 256 → entry_at file i t ≡ source.entry (get_or source.stops i 0) t
  entry_back i t h l =
      let stop = get_or source.stops i 0 in
      let q = t / 2 in
      let few : q < 128 = omega arith in
      let at : 512 * (i + 1) + 8 + q ≡ 512 * (i + 1) + (8 + q) = omega arith in
      let byte : get_or file (512 * (i + 1) + 8 + q) 0 ≡ source.entry stop (2 * q) * 16 + source.entry stop (2 * q + 1) =
      ap (λ p. get_or file p 0) at ∙ byte_is source (i + 1) (8 + q) (omega arith) (omega arith)
      ∙ content_byte_lem source (content_of source.stops (i + 1)) (i + 1) (8 + q) (omega arith)
      ∙ ap (λ c. content_byte source c (8 + q)) (ways_at source.stops i h) ∙ pair_byte source.entry stop q few in
      ap (half_of t) byte ∙ half_is (source.entry stop) t (sound.small stop (2 * q + 1))

  key_at_lem : (j q : ℕ) → j < 8 → q < 256 → get_or file (512 * (n + 1 + j) + (8 + q)) 0 ≡ key_half (8 + q) (source.key (128 * j + q / 2))
  key_at_lem j q h l =
      byte_is source (n + 1 + j) (8 + q) (omega arith) (omega arith)
      ∙ content_byte_lem source (content_of source.stops (n + 1 + j)) (n + 1 + j) (8 + q) (omega arith)
      ∙ ap (λ c. content_byte source c (8 + q)) (keys_at source.stops j) ∙ key_byte_lem source.key j q l

  key_back : (s : ℕ) → s < 1024 → key_in file s ≡ source.key s
  key_back s h =
      let j = s / 128 in
      let r = s % 128 in
      let c = count_is source sound in
      let k = source.key s in
      let fit = sound.keys s in
      let one : 128 * j + 2 * r / 2 ≡ s = omega arith in
      let two : 128 * j + (2 * r + 1) / 2 ≡ s = omega arith in
      let even : (8 + 2 * r) % 2 ≡ 0 = omega arith in
      let odd : (8 + (2 * r + 1)) % 2 ≡ 1 = omega arith in
      let at : key_place file s ≡ 512 * (n + 1 + j) + (8 + 2 * r) = omega arith in
      let next : key_place file s + 1 ≡ 512 * (n + 1 + j) + (8 + (2 * r + 1)) = omega arith in
      let high : get_or file (key_place file s) 0 ≡ k / 256 % 256 =
      ap (λ p. get_or file p 0) at ∙ key_at_lem j (2 * r) (omega arith) (omega arith) ∙ ap (λ x. key_half (8 + 2 * r) (source.key x)) one
      ∙ cond-true _ _ _ (eq-eqb ((8 + 2 * r) % 2) 0 even) in
      let low : get_or file (key_place file s + 1) 0 ≡ k % 256 =
      ap (λ p. get_or file p 0) next ∙ key_at_lem j (2 * r + 1) (omega arith) (omega arith) ∙ ap (λ x. key_half (8 + (2 * r + 1)) (source.key x)) two
      ∙ cond-false _ _ _ (ne_eqb ((8 + (2 * r + 1)) % 2) 0 (λ e. omega arith)) in
      let top : k / 256 % 256 ≡ k / 256 = mod-eq_of_lt (div_below k 256 256 (omega arith) (omega arith)) in
      cond-true _ _ _ (lt-ltb s 1024 h) ∙ (let a = high in let b = low in omega arith)

  pub read_back : ReadBack source file
  read_back =
      record {
        width = width_is source sound;
        height = height_is source sound;
        count = count_is source sound;
        stops = stop_is source sound;
        ways = λ i t h l.
            let stop = stop_is source sound i h in
            let c = count_is source sound in
            ap (way_in file t) (sym stop) ∙ way_to_stop file (of_layout source sound) i t (omega arith) ∙ ap entry_way (entry_back i t h l);
        keys = key_back;
      }
