-- What a map, a way-finder and keys give to be written.
use Rattle.std.proofs.Common.{◌≡◌, ℕ, ◌+◌, ◌<◌, ◌≤◌, Bool, true, false, not, ◌&&◌, eqb, ◌⊎◌, List, length, get_or, Some, None, Option, refl, inl, inr, arith}
use Rattle.std.proofs.lemmas.Bool.{cond-false}
use Rattle.std.proofs.lemmas.Bool.Decides.{nat_tests}
use Rattle.map.specs.declared.side.Side.{Side}
use Rattle.map.specs.declared.side.Side.TheVariants.{North, East, South, West}
use Rattle.map.specs.Sides.{side_number}
use Rattle.map.specs.Floors.{on_floor}
use Rattle.map.specs.Layouts.{Layout}
use Rattle.map.specs.Rules.{Lawful}
use Rattle.planfile.specs.declared.block.Head.{Head}
use Rattle.planfile.specs.Layouts.{entry_fits, is_there}
use Rattle.planwriter.specs.Files.{Source, entry_number, entry_for, key_for, head_for, source_of}
use Rattle.planwriter.proofs.StopLists.{few, each, rising}

pub record Sound (source : Source) : Type 0 where
  pub wide : (1 ≤ source.head.width) × (source.head.width ≤ 16)
  pub high : (1 ≤ source.head.height) × (source.head.height ≤ 16)
  pub count : source.head.count ≡ length source.stops
  pub few : length source.stops ≤ 64
  pub there : (i : ℕ) → i < length source.stops → on_floor source.head.width source.head.height (get_or source.stops i 0) ≡ true
  pub rising : (i : ℕ) → i + 1 < length source.stops → get_or source.stops i 0 < get_or source.stops (i + 1) 0
  pub entries : (stop t : ℕ) → entry_fits source.head stop t (source.entry stop t) ≡ true
  pub small : (stop t : ℕ) → source.entry stop t < 16
  pub missing : (s : ℕ) → is_there source.head s ≡ false → source.key s ≡ 0
  pub keys : (s : ℕ) → source.key s < 65536

side_small : (s : Side) → side_number s < 4
side_small North = omega arith
side_small East = omega arith
side_small South = omega arith
side_small West = omega arith

entry_is : (o : Option (Side × ℕ)) → (entry_number o ≡ 15) ⊎ (entry_number o < 4)
entry_is None = inl refl
entry_is (Some a) = inr (side_small a.0)

module _ (head : Head) (first : ℕ → ℕ → ℕ) (way : ℕ → ℕ → ℕ → Option (Side × ℕ)) where
  -- the entry that is written, by whether the table has one
  has_entry : (stop t : ℕ) (b : Bool) → (on_floor head.width head.height t && not (eqb t stop)) ≡ b
      → (entry_fits head stop t (entry_for head first way stop t) ≡ true) × (entry_for head first way stop t < 16)
  has_entry stop t false e = grind (arith, nat_tests)
  has_entry stop t true e = let is = entry_is (way t stop (first t stop)) in grind (arith, nat_tests)

pub sound : (layout : Layout) (first : ℕ → ℕ → ℕ) (way : ℕ → ℕ → ℕ → Option (Side × ℕ)) (keys : List ℕ)
    → Lawful layout → ((s : ℕ) → get_or keys s 0 < 65536) → Sound (source_of layout first way keys)
sound layout first way keys lawful fit =
    record {
      wide = lawful.wide;
      high = lawful.high;
      count = refl;
      few = let l = few layout 256 0 in let m = lawful.few in omega arith;
      there = λ i h. lawful.stops_there _ (each layout 256 0 i h).is;
      rising = λ i h. rising layout 256 0 i h;
      entries = λ stop t. (has_entry (head_for layout) first way stop t _ refl).0;
      small = λ stop t. (has_entry (head_for layout) first way stop t _ refl).1;
      missing = λ s e. cond-false _ _ _ e;
      keys = λ s. small_key s (is_there (head_for layout) s) refl;
    }
  where
    small_key : (s : ℕ) (b : Bool) → is_there (head_for layout) s ≡ b → key_for (head_for layout) keys s < 65536
    small_key s true e = grind (arith, nat_tests)
    small_key s false e = grind (arith, nat_tests)
