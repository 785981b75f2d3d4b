-- What the account says of the store: its map, its plan and its floor.
use Rattle.std.specs.Prelude.{ℕ, Bool, true, false, List, ◌++◌, Some, None, Ok, Err, codes, decimal, Option, Result}
use Rattle.map.specs.declared.map.Map.{Map}
use Rattle.map.specs.Layouts.{Layout, layout, table_closed, segment_closed, stop_count}
use Rattle.routes.specs.declared.refusal.Refusal.{Refusal}
use Rattle.routes.specs.Refusals.{reason_number}
use Rattle.plancheck.specs.declared.pass.Pass.{Pass}
use Rattle.trays.specs.Outcomes.{counts_outcome}
use Rattle.floor.specs.declared.floor.Floor.{Floor}
use Rattle.engine.specs.declared.finder.Named.{Named}
use Rattle.engine.specs.declared.finder.Named.TheVariants.{ByRows, ByTree}
use Rattle.engine.specs.declared.finder.Finder.{Finder}
use Rattle.engine.specs.declared.finder.Finder.TheVariants.{Bare, Once, Twice, Thrice}
use Rattle.engine.specs.declared.plan.Plan.{Plan}
use Rattle.engine.specs.declared.session.Session.{Session}
use Rattle.engine.specs.Tallies.{tally_text}
use Rattle.reports.specs.declared.account.Figures.{Figures}
use Rattle.reports.specs.declared.account.Said.{Said}
use Rattle.reports.specs.declared.account.Said.TheVariants.{NotChecked, Passes, RefusedBy}
use Rattle.reports.specs.Numbers.{how_many_below}

-- the map's size, its stops, and how much of it is closed
abbrev pub figures_of : Layout → Figures
figures_of m = record { width = m.width; height = m.height; stops = stop_count m; tables = how_many_below (table_closed m) 256; segments = how_many_below (segment_closed m) 1024 }

abbrev pub figures_text : Figures → List ℕ
figures_text a =
    decimal a.width ++ (codes " x " ++ (decimal a.height
    ++ (codes ", stops " ++ (decimal a.stops
    ++ (codes ", closed tables " ++ (decimal a.tables
    ++ (codes ", closed segments " ++ decimal a.segments)))))))

-- what is said of what is there, or that there is none
abbrev pub or_none : {A : Type 0} → (A → Option (List ℕ)) → Option A → Option (List ℕ)
or_none told None = Some (codes "none")
or_none told (Some a) = told a

abbrev pub map_text : Option Map → List ℕ
map_text None = codes "none"
map_text (Some m) = figures_text (figures_of (layout m))

abbrev pub has_detour : Finder → Bool
has_detour (Bare w) = false
has_detour (Once w) = true
has_detour (Twice w) = true
has_detour (Thrice w) = true

-- the plan's name, and whether there is a detour
abbrev pub name_text : Named → Bool → List ℕ
name_text (ByRows w) false = codes "row-first"
name_text (ByRows w) true = codes "row-first with detour"
name_text (ByTree w) false = codes "tree"
name_text (ByTree w) true = codes "tree with detour"

-- what the check said of the map and the plan as they are now
abbrev pub said_of : Option (Result Pass Refusal) → Said
said_of None = NotChecked
said_of (Some (Ok a)) = Passes
said_of (Some (Err e)) = RefusedBy (reason_number e.reason)

abbrev pub said_text : Said → List ℕ
said_text NotChecked = codes "not checked"
said_text Passes = codes "pass"
said_text (RefusedBy n) = codes "refused " ++ decimal n

abbrev pub verdict_text : Option (Result Pass Refusal) → List ℕ
verdict_text o = said_text (said_of o)

abbrev pub plan_line : Plan → List ℕ
plan_line p = name_text p.named (has_detour p.finder) ++ (codes ": " ++ verdict_text p.verdict)

abbrev pub plan_text : Option Plan → List ℕ
plan_text None = codes "none"
plan_text (Some p) = plan_line p

abbrev pub counts_text : ℕ × ℕ × ℕ → List ℕ
counts_text p =
    codes "in " ++ (decimal p.0
    ++ (codes ", delivered " ++ (decimal p.1
    ++ (codes ", on the floor " ++ decimal p.2))))

abbrev pub floor_text : Option (Floor Finder) → List ℕ
floor_text None = codes "none"
floor_text (Some f) = counts_text (counts_outcome f.trays)

abbrev pub account_text : Session → List ℕ
account_text s =
    codes "\naccount\n" ++ (tally_text s.tally
    ++ (codes "\nmap " ++ (map_text s.store.map
    ++ (codes "\nplan " ++ (plan_text s.store.plan
    ++ (codes "\nfloor: " ++ (floor_text s.store.floor
    ++ codes "\n")))))))
