-- What a change of one byte does to a block's sum.
use Rattle.std.specs.Prelude.{◌≡◌, ℕ, ◌*◌, ◌<◌, List, length, ◌≢◌, slice_index, slice_index_or}
use Rattle.blocks.specs.Words.{word_sum}

abbrev pub AllBytes : List ℕ → Type 0
AllBytes bs = (i : ℕ) → slice_index bs i < 256

-- two lists that differ at place i and nowhere else
pub record OnlyAt (i : ℕ) (b d : List ℕ) : Type 0 where
  pub within : i < length b
  pub long : length b ≡ length d
  pub here : slice_index_or b i 0 ≡ slice_index d i → ⊥
  pub elsewhere : (k : ℕ) → (k ≢ i) → slice_index b k ≡ slice_index d k

-- a block of n whole words and any that differs from it in exactly one byte have two sums
abbrev pub OneByteTells : List ℕ → Type 0
OneByteTells b = (i n : ℕ) (d : List ℕ) → length b ≡ 4 * n → AllBytes d → OnlyAt i b d → word_sum d ≢ word_sum b
