-- The way-finders of a script's plans: the named ones, and detours over them.
use Rattle.std.specs.Prelude.{ℕ, Some, None, Option}
use Rattle.map.specs.declared.side.Side.{Side}
use Rattle.orders.specs.declared.key.Pair.{Pair}
use Rattle.ways.specs.RowFirsts.{row_first_way, row_first_key}
use Rattle.tree.specs.Finders.{way_by, key_by}
use Rattle.detour.specs.declared.detour.Detour.{Detour}
use Rattle.detour.specs.Vias.{no_vias}
use Rattle.detour.specs.Detours.{detour_first, detour_way}
use Rattle.engine.specs.declared.finder.Named.{Named}
use Rattle.engine.specs.declared.finder.Named.TheVariants.{ByRows, ByTree}
use Rattle.engine.specs.declared.finder.Finder.{Finder}
use Rattle.engine.specs.declared.finder.Finder.TheVariants.{Bare, Once, Twice, Thrice}

abbrev pub named_way : Named → ℕ → ℕ → Option (Side × ℕ)
named_way (ByRows w) t d = row_first_way t d
named_way (ByTree w) t d = way_by w t d

abbrev pub named_key : Named → ℕ → Pair ℕ ℕ
named_key (ByRows w) n = row_first_key n
named_key (ByTree w) n = key_by w n

-- the two functions of a named plan, and of one, two and three detours over it
abbrev pub first0 : Named → ℕ → ℕ → ℕ
first0 w o d = 0

abbrev pub way0 : Named → ℕ → ℕ → ℕ → Option (Side × ℕ)
way0 w t d n = named_way w t d

abbrev pub first1 : Detour Named → ℕ → ℕ → ℕ
first1 w o d = detour_first (first0 w.below) (way0 w.below) w.vias o d

abbrev pub way1 : Detour Named → ℕ → ℕ → ℕ → Option (Side × ℕ)
way1 w t d n = detour_way (first0 w.below) (way0 w.below) t d n

abbrev pub first2 : Detour (Detour Named) → ℕ → ℕ → ℕ
first2 w o d = detour_first (first1 w.below) (way1 w.below) w.vias o d

abbrev pub way2 : Detour (Detour Named) → ℕ → ℕ → ℕ → Option (Side × ℕ)
way2 w t d n = detour_way (first1 w.below) (way1 w.below) t d n

abbrev pub first3 : Detour (Detour (Detour Named)) → ℕ → ℕ → ℕ
first3 w o d = detour_first (first2 w.below) (way2 w.below) w.vias o d

abbrev pub way3 : Detour (Detour (Detour Named)) → ℕ → ℕ → ℕ → Option (Side × ℕ)
way3 w t d n = detour_way (first2 w.below) (way2 w.below) t d n

abbrev pub finder_first : Finder → ℕ → ℕ → ℕ
finder_first (Bare w) = first0 w
finder_first (Once w) = first1 w
finder_first (Twice w) = first2 w
finder_first (Thrice w) = first3 w

abbrev pub finder_way : Finder → ℕ → ℕ → ℕ → Option (Side × ℕ)
finder_way (Bare w) = way0 w
finder_way (Once w) = way1 w
finder_way (Twice w) = way2 w
finder_way (Thrice w) = way3 w

-- one detour more, with no vias; there are at most three
abbrev pub detoured : Finder → Option Finder
detoured (Bare w) = Some (Once (record { below = w; vias = no_vias }))
detoured (Once w) = Some (Twice (record { below = w; vias = no_vias }))
detoured (Twice w) = Some (Thrice (record { below = w; vias = no_vias }))
detoured (Thrice w) = None
