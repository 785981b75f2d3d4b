-- A floor, by what it is laid out with and the trays on it.
use Rattle.std.specs.Prelude.{ℕ, Ok, Err, Result}
use Rattle.map.specs.declared.map.Map.{Map}
use Rattle.map.specs.Layouts.{layout}
use Rattle.ways.specs.declared.finder.WayFinder as WayFinder
use Rattle.trays.specs.declared.trays.Trays.{Trays}
use Rattle.trays.specs.declared.refusal.Refusal.{Refusal}
use Rattle.trays.specs.Sites.{Site, site_of}
use Rattle.trays.specs.Outcomes.{no_trays}
use Rattle.floor.specs.declared.floor.Floor.{Floor}
use Rattle.floor.specs.declared.floor.Entered.{Entered}
use Rattle.floor.specs.declared.floor.Moved.{Moved}
use Rattle.floor.specs.declared.floor.Counts.{Counts}

-- what the floor is laid out with: its map, and its way-finder's two functions
abbrev pub site_in : {W : Type 0} → WayFinder.Ghosts W → Floor W → Site
site_in ways f = site_of (ways.first f.finder) (ways.way f.finder) (layout f.map)

-- the same floor with other trays
abbrev pub with_trays : {W : Type 0} → Floor W → Trays → Floor W
with_trays f b = record { map = f.map; finder = f.finder; trays = b }

abbrev pub empty_floor : {W : Type 0} → Map → W → Floor W
empty_floor m w = record { map = m; finder = w; trays = no_trays }

-- The answers by their fields.

abbrev pub entered_fields : Result Entered Refusal → Result (ℕ × ℕ) Refusal
entered_fields (Ok a) = Ok (a.tray, a.segment)
entered_fields (Err r) = Err r

abbrev pub moved_fields : Result Moved Refusal → Result (ℕ × ℕ × ℕ) Refusal
moved_fields (Ok a) = Ok (a.tray, a.advances, a.segment)
moved_fields (Err r) = Err r

abbrev pub counts_fields : Counts → ℕ × ℕ × ℕ
counts_fields a = (a.entered, a.delivered, a.on_floor)
