-- What is refused of a block, and first refused of a file.
use Rattle.std.specs.Prelude.{ℕ, zero, suc, ◌+◌, ◌-◌, ◌*◌, ◌%◌, Bool, true, false, cond, ◌&&◌, List, length, take, drop, Some, None, Option, ◌==◌, nat_le, slice_index}
use Rattle.blocks.specs.Words.{adds_up}
use Rattle.planfile.specs.declared.block.Head.{Head}
use Rattle.planfile.specs.declared.block.Content.{Content}
use Rattle.planfile.specs.declared.block.Content.TheVariants.{Stops, Ways, Keys}
use Rattle.planfile.specs.declared.refusal.Refusal.{Refusal}
use Rattle.planfile.specs.declared.refusal.Refusal.TheVariants.{BadLength, BadSum, BadFront, BadContent}
use Rattle.planfile.specs.Layouts.{body_fits}

-- the kinds of block: the head, the ways to a stop, and keys
abbrev pub kind_of : Content → ℕ
kind_of Stops = 1
kind_of (Ways stop) = 2
kind_of (Keys part) = 3

-- the first four bytes: the kind, the number and two zeros
abbrev pub front_fits : ℕ → Content → List ℕ → Bool
front_fits number content block =
    (slice_index block 0 == kind_of content)
    && (slice_index block 1 == number && (slice_index block 2 == 0 && slice_index block 3 == 0))

-- first the sum, then the first four bytes, then the content
abbrev pub judged : ℕ → Bool → Bool → Bool → Option Refusal
judged number false front body = Some (BadSum number)
judged number true false body = Some (BadFront number)
judged number true true false = Some (BadContent number)
judged number true true true = None

abbrev pub block_refusal : Head → Content → ℕ → List ℕ → Option Refusal
block_refusal head content number block =
    judged number (adds_up block) (front_fits number content block) (body_fits head content (drop 4 block))

-- width, height and number of stops, as the head block gives them
abbrev pub file_head : List ℕ → Head
file_head file = record { width = slice_index file 4; height = slice_index file 5; count = slice_index file 6 }

-- block k of the file
abbrev pub block_at : List ℕ → ℕ → List ℕ
block_at file k = take 512 (drop (512 * k) file)

-- what block k is to hold: the head, then the ways to each stop in the head's order, then the keys
abbrev pub content_at : List ℕ → ℕ → Content
content_at file k =
    cond (k == 0) Stops
    (cond (nat_le k (slice_index file 6)) (Ways (slice_index file (7 + k))) (Keys (k - (slice_index file 6 + 1))))

abbrev pub refusal_at : List ℕ → ℕ → Option Refusal
refusal_at file k = block_refusal (file_head file) (content_at file k) k (block_at file k)

abbrev pub first_of : Option Refusal → Option Refusal → Option Refusal
first_of (Some r) later = Some r
first_of None later = later

-- what is first refused in m blocks from block k on
unfoldable pub first_from : List ℕ → ℕ → ℕ → Option Refusal
first_from file zero k = None
first_from file (suc m) k = first_of (refusal_at file k) (first_from file m (k + 1))

abbrev pub unless_long : Bool → Option Refusal
unless_long true = None
unless_long false = Some BadLength

-- a multiple of 512 from 4,608 to 37,376
abbrev pub length_fits : ℕ → Bool
length_fits n = n % 512 == 0 && (nat_le 4608 n && nat_le n 37376)

-- the length, the head block, the length by the number of stops, and then the other blocks
abbrev pub read_outcome : List ℕ → Option Refusal
read_outcome file =
    first_of (unless_long (length_fits (length file)))
    (first_of (refusal_at file 0)
    (first_of (unless_long (length file == 512 * (slice_index file 6 + 9)))
    (first_from file (slice_index file 6 + 8) 1)))
