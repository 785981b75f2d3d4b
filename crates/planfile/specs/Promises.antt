-- What it is for a file to be of the layout, and what is told of one that is not.
use Rattle.std.specs.Prelude.{◌≡◌, ℕ, ◌+◌, ◌*◌, ◌/◌, ◌<◌, ◌≤◌, true, false, ◌⊎◌, List, length, drop, is_some, Some, ◌≢◌, slice_index, slice_index_or}
use Rattle.map.specs.Floors.{on_floor, head_of}
use Rattle.blocks.specs.Words.{word_sum}
use Rattle.blocks.specs.Changes.{AllBytes, OnlyAt}
use Rattle.planfile.specs.declared.block.Head.{Head}
use Rattle.planfile.specs.declared.block.Content.{Content}
use Rattle.planfile.specs.declared.refusal.Refusal.{Refusal}
use Rattle.planfile.specs.declared.refusal.Refusal.TheVariants.{BadLength, BadSum, BadFront, BadContent, ShortBuffer, WrongKeys}
use Rattle.planfile.specs.Layouts.{byte_fits}
use Rattle.planfile.specs.Outcomes.{kind_of, block_refusal, file_head, block_at, content_at, length_fits, read_outcome}
use Rattle.planfile.specs.Plans.{stop_at, entry_at, key_in}

-- a block begins with its kind, its number and two zeros
pub record Front (number : ℕ) (content : Content) (block : List ℕ) : Type 0 where
  pub kind : slice_index_or block 0 0 ≡ kind_of content
  pub place : slice_index_or block 1 0 ≡ number
  pub third : slice_index_or block 2 0 ≡ 0
  pub fourth : slice_index_or block 3 0 ≡ 0

-- a good block: its words add up, it begins as it should, and each byte up to the last word is as the layout says
pub record GoodBlock (head : Head) (content : Content) (number : ℕ) (block : List ℕ) : Type 0 where
  pub adds : word_sum block ≡ 4294967295
  pub front : Front number content block
  pub bytes : (p : ℕ) → 4 ≤ p → p < 508 → byte_fits head content (drop 4 block) p ≡ true

abbrev pub GoodAt : List ℕ → ℕ → Type 0
GoodAt file k = GoodBlock (file_head file) (content_at file k) k (block_at file k)

-- a file of the layout, by its number of stops: a head, a block of ways for each stop, and eight of keys
pub record PlanFile (file : List ℕ) : Type 0 where
  pub long : length file ≡ 512 * (slice_index file 6 + 9)
  pub blocks : (k : ℕ) → k < slice_index file 6 + 9 → GoodAt file k

-- the length and every block before block k are good
pub record GoodBefore (file : List ℕ) (k : ℕ) : Type 0 where
  pub sized : length_fits (length file) ≡ true
  pub within : k < slice_index file 6 + 9
  pub long : 0 < k → length file ≡ 512 * (slice_index file 6 + 9)
  pub good : (j : ℕ) → j < k → GoodAt file j

-- some byte up to the last word is not as the layout says
abbrev pub BadByte : Head → Content → List ℕ → Type 0
BadByte head content block = (p : ℕ) × (4 ≤ p) × (p < 508) × (byte_fits head content (drop 4 block) p ≡ false)

-- a refusal names the first block that is not good, and the first of its reasons
abbrev pub FirstFault : List ℕ → Refusal → Type 0
FirstFault file BadLength = (length_fits (length file) ≡ false) ⊎ (GoodAt file 0 × (length file ≢ 512 * (slice_index file 6 + 9)))
FirstFault file (BadSum k) = GoodBefore file k × (word_sum (block_at file k) ≢ 4294967295)
FirstFault file (BadFront k) = GoodBefore file k × (word_sum (block_at file k) ≡ 4294967295) × (Front k (content_at file k) (block_at file k) → ⊥)
FirstFault file (BadContent k) =
    GoodBefore file k × (word_sum (block_at file k) ≡ 4294967295) × Front k (content_at file k) (block_at file k)
    × BadByte (file_head file) (content_at file k) (block_at file k)
FirstFault file ShortBuffer = ⊥
FirstFault file WrongKeys = ⊥

-- what a file of the layout holds: bytes, with a floor, its stops rising, the entries of each and the keys
pub record PlanHolds (file : List ℕ) : Type 0 where
  pub bytes : AllBytes file
  pub wide : (1 ≤ slice_index file 4) × (slice_index file 4 ≤ 16)
  pub high : (1 ≤ slice_index file 5) × (slice_index file 5 ≤ 16)
  pub few : slice_index_or file 6 0 ≤ 64
  pub there : (i : ℕ) → i < slice_index file 6 → on_floor (slice_index file 4) (slice_index file 5) (stop_at file i) ≡ true
  pub rising : (i : ℕ) → i + 1 < slice_index file 6 → stop_at file i < stop_at file (i + 1)
  pub entries : (i t : ℕ) → i < slice_index file 6 → t < 256
      → (entry_at file i t ≡ 15) ⊎ ((entry_at file i t < 4) × (on_floor (slice_index file 4) (slice_index file 5) t ≡ true) × (t ≢ stop_at file i))
  pub keys : (s : ℕ) → is_some (head_of (slice_index file 4) (slice_index file 5) s) ≡ false → key_in file s ≡ 0

-- a block that differs from one of the file's in exactly one byte is refused by its sum, whatever it is to hold
abbrev pub OneByteRefused : List ℕ → Type 0
OneByteRefused file =
    (k i : ℕ) (block : List ℕ) (head : Head) (content : Content) (number : ℕ)
    → k < slice_index file 6 + 9 → AllBytes block → OnlyAt i (block_at file k) block → block_refusal head content number block ≡ Some (BadSum number)

-- a file that differs from this one in exactly one byte is refused, and the refusal names the block of that byte
abbrev pub OneByteNamed : List ℕ → Type 0
OneByteNamed file = (i : ℕ) (other : List ℕ) → AllBytes other → OnlyAt i file other → read_outcome other ≡ Some (BadSum (i / 512))
