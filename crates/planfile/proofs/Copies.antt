-- A copy of a file gives the file's ways and keys.
use Rattle.std.proofs.Common.{◌≡◌, ℕ, zero, suc, ◌+◌, ◌-◌, ◌*◌, ◌/◌, ◌%◌, ◌<◌, ◌≤◌, min, cond, eqb, ltb, List, ◌++◌, length, get_or, take, drop, Some, None, Option, sym, refl, ap, ◌∙◌, inl, inr, arith}
use Rattle.std.proofs.lemmas.List.FromFn.{fill_by_all}
use Rattle.std.proofs.Math.ListN.{replicate}
use Rattle.std.proofs.lemmas.List.{get_or_past, get_or-take, get_or-drop, get_or-replicate, get_or_append_left, get_or-append_right, length-take-le, length-append, length-drop, length-replicate}
use Rattle.std.proofs.lemmas.Bool.{cases_lt}
use Rattle.planfile.specs.Copies.{SamePlan, copy_of}
use Rattle.planfile.specs.Plans.{seek, stop_at, place_of, half_of, entry_way, way_to, key_place, key_in}

-- ways and keys are looked up byte by byte, with 0 behind the end
module _ (file other : List ℕ) (same : (i : ℕ) → get_or other i 0 ≡ get_or file i 0) where
  same_seek : (table m i : ℕ) → seek other table m i ≡ seek file table m i
  unfolding seek
  same_seek table zero i = refl
  same_seek table (suc m) i =
      ap (λ stop. cond (eqb stop table) (Some i) (seek other table m (i + 1))) (same (8 + i))
      ∙ ap (cond (eqb (stop_at file i) table) (Some i)) (same_seek table m (i + 1))

  same_place : (table : ℕ) → place_of other table ≡ place_of file table
  same_place table = ap (λ count. seek other table count 0) (same 6) ∙ same_seek table (get_or file 6 0) 0

  same_way : (t : ℕ) (o : Option ℕ) → way_to other t o ≡ way_to file t o
  same_way t None = refl
  same_way t (Some i) = ap (λ byte. entry_way (half_of t byte)) (same (512 * (i + 1) + 8 + t / 2))

  same_key : (s : ℕ) → key_in other s ≡ key_in file s
  same_key s =
      ap (λ count. key_at other (512 * (count + 1 + s / 128) + 8 + 2 * (s % 128))) (same 6)
      ∙ ap (λ byte. cond (ltb s 1024) (byte * 256 + get_or other (key_place file s + 1) 0) 0) (same (key_place file s))
      ∙ ap (λ byte. cond (ltb s 1024) (get_or file (key_place file s) 0 * 256 + byte) 0) (same (key_place file s + 1))
    where
      key_at : List ℕ → ℕ → ℕ
      key_at bytes p = cond (ltb s 1024) (get_or bytes p 0 * 256 + get_or bytes (p + 1) 0) 0

  pub same_plan : SamePlan file other
  same_plan = record { ways = λ t d. ap (way_to other t) (same_place d) ∙ same_way t (place_of file d); keys = same_key }

-- the bytes up to the longest file's length were copied over zeros
module _ (file part : List ℕ) (count : ℕ) (short : count ≡ min (length file) 37376) (same : part ≡ take count file) where
  abbrev bytes : List ℕ
  bytes = part ++ drop count (replicate 37376 0)

  front : length part ≡ count
  front = ap length same ∙ length-take-le count file (omega arith)

  long : length bytes ≡ 37376
  long =
      let n = front in
      let zeros : List ℕ = replicate 37376 0 in
      let rest = length-drop count zeros in
      let all : length zeros ≡ 37376 = length-replicate {A = ℕ} 37376 0 in
      omega (arith, length-append part (drop count zeros))

  each : (k : ℕ) → k < 37376 → get_or bytes k 0 ≡ get_or file k 0
  each k h =
      let n = front in
      elim (cases_lt k count) [
        | inl l ↦ get_or_append_left part _ 0 k (omega arith) ∙ ap (λ xs. get_or xs k 0) same ∙ get_or-take count file k 0 l
        | inr past ↦
            let zeros : List ℕ = replicate 37376 0 in
            let place : count + (k - count) < 37376 = omega arith in
            get_or-append_right part (drop count zeros) count k 0 front past ∙ get_or-drop count zeros (k - count) 0 ∙ get_or-replicate 37376 (count + (k - count)) 0 0 place
            ∙ sym (get_or_past file k 0 (omega arith))
      ]

  pub is_copy : bytes ≡ copy_of file
  unfolding copy_of
  is_copy = fill_by_all (λ k. get_or file k 0) bytes 37376 0 long each

  -- behind the end of both there are zeros
  pub same_copy : length file ≤ 37376 → SamePlan file bytes
  same_copy fits =
      same_plan file bytes
      (λ i. elim (cases_lt i 37376) [
        | inl l ↦ each i l
        | inr h ↦ let n = long in get_or_past bytes i 0 (omega arith) ∙ sym (get_or_past file i 0 (omega arith))
      ])
