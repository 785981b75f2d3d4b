-- A plan with bytes of its own.
use Rattle.std.specs.Prelude.{◌≡◌, ℕ, List, map, slice_index}
use Rattle.std.specs.List.{range_with_len}
use Rattle.planfile.specs.Plans.{way_in, key_in}

-- the file's bytes, and zeros up to the length of the longest file
unfoldable pub copy_of : List ℕ → List ℕ
copy_of file = map (λ place. slice_index file place) (range_with_len 0 37376)

-- two files with the same ways and keys
pub record SamePlan (file other : List ℕ) : Type 0 where
  pub ways : (t d : ℕ) → way_in other t d ≡ way_in file t d
  pub keys : (s : ℕ) → key_in other s ≡ key_in file s
