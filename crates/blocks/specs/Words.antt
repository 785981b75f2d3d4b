-- The sum of a block's words, and the word that closes a block.
use Rattle.std.specs.Prelude.{ℕ, ◌+◌, ◌-◌, ◌*◌, ◌/◌, ◌%◌, ◌^◌, Bool, List, [], ◌∷◌, ◌++◌, ◌==◌}

-- the big-endian words of four bytes added up; one to three bytes over count for nothing
abbrev pub words : List ℕ → ℕ
words [] = 0
words (a ∷ []) = 0
words (a ∷ b ∷ []) = 0
words (a ∷ b ∷ c ∷ []) = 0
words (a ∷ b ∷ c ∷ d ∷ rest) = (a * 16777216 + b * 65536 + c * 256 + d) + words rest

abbrev pub word_sum : List ℕ → ℕ
word_sum bs = words bs % 2 ^ 32

-- a block adds up where its sum is the largest 32-bit number
abbrev pub adds_up : List ℕ → Bool
adds_up block = word_sum block == 4294967295

-- the four bytes of a word, the highest first
abbrev pub big_endian : ℕ → List ℕ
big_endian w = (w / 16777216 % 256) ∷ (w / 65536 % 256) ∷ (w / 256 % 256) ∷ (w % 256) ∷ []

-- the last word of a block, which sees to its sum
abbrev pub last_word : List ℕ → ℕ
last_word front = 4294967295 - word_sum front

-- what stands before the last word, and the last word
abbrev pub closed : List ℕ → List ℕ
closed front = front ++ big_endian (last_word front)
