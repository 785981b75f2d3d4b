-- The examples: what the definitions give, and what they must give.
use Rattle.std.specs.Prelude.{◌≡◌, ℕ, List, [], ◌∷◌, ◌++◌, length, take, drop, replicate, Some, None, Option}
use Rattle.ways.specs.RowFirsts.{row_first_way}
use Rattle.links.specs.Ways.{tree_key}
use Rattle.plancheck.specs.Plans.{plan_check}
use Rattle.trays.specs.declared.event.Call.TheVariants.{Enter, Advance}
use Rattle.trays.specs.Logs.Log.{start, ◌then◌}
use Rattle.trays.specs.Outcomes.{no_trays}
use Rattle.trays.specs.Runs.{history}
use Rattle.detour.specs.Vias.{no_vias, add_via}
use Rattle.detour.specs.Vias as Vias
use Rattle.detour.specs.Detours.{detour_first, detour_way}
use Rattle.planfile.specs.declared.refusal.Refusal.{Refusal}
use Rattle.planfile.specs.Refusals.{refusal_number}
use Rattle.planfile.specs.Outcomes.{read_outcome}
use Rattle.planwriter.specs.Files.{file_of, source_of}
use Rattle.promise.specs.Floors.{site_for}
use Rattle.promise.specs.Trees.{tree_routing}
use Rattle.routes.specs.Routings.{Routing}
use Rattle.examples.specs.Stores.{square, square_closed, line, line_closed, row_first, written, turning, checked, all_told, first_steps, parts}

-- the file for 2 x 1 with stops 0 and 1, row-first ways (0 east, 1 west) and all keys 0
abbrev pub line_file : List ℕ
line_file = file_of (source_of (line (0 ∷ 1 ∷ [])) (λ o d. 0) (λ t d n. row_first_way t d) (replicate 1024 0))

-- no number where nothing is refused
abbrev pub refusals : Option Refusal → List ℕ
refusals None = []
refusals (Some r) = refusal_number r ∷ []

-- what is given, and what must be
pub record Example : Type 0 where
  pub given : List ℕ
  pub wanted : List ℕ

abbrev pub gives : List ℕ → List ℕ → Example
gives g w = record { given = g; wanted = w }

-- a detour over row-first, by way of 16 from 0 to 17
abbrev pub by_way : Routing
by_way =
    let below = row_first square in
    let vias = Vias.after no_vias (add_via no_vias 0 17 16) in
    record { first = detour_first below.first below.way vias; way = detour_way below.first below.way; map = square; rises = below.rises }

abbrev pub examples : List Example
examples =
    -- row-first passes: 12 pairs, 16 segments, the longest route has 2
    gives (checked (plan_check (row_first square))) (12 ∷ 16 ∷ 2 ∷ [])
    -- with segment 1 closed: refusal 15, from 0 to 1, step 1, nothing held, 1 wanted
    ∷ gives (checked (plan_check (row_first square_closed))) (15 ∷ 0 ∷ 1 ∷ 1 ∷ 65535 ∷ 1 ∷ [])
    -- tree: 16 to 17 goes over 64, 1, 6, notes 0, with these keys
    ∷ gives (first_steps (tree_routing square) 16 17 3) (64 ∷ 0 ∷ 1 ∷ 0 ∷ 6 ∷ 0 ∷ [])
    ∷ gives (parts (tree_key square 64)) (0 ∷ 254 ∷ [])
    ∷ gives (parts (tree_key square 1)) (1 ∷ 1 ∷ [])
    ∷ gives (parts (tree_key square 6)) (1 ∷ 2 ∷ [])
    -- tree: pass
    ∷ gives (checked (plan_check (tree_routing square))) (12 ∷ 20 ∷ 3 ∷ [])
    -- the turning plan: refusal 16, from 16 to 1, step 2, 64 held, 1 wanted
    ∷ gives (checked (plan_check (turning square))) (16 ∷ 16 ∷ 1 ∷ 2 ∷ 64 ∷ 1 ∷ [])
    -- that plan unpassed: four trays enter, and each one's advance is refused with 19
    ∷ gives (all_told (history (site_for (turning square)) no_trays (start then Enter 0 17 then Enter 1 16 then Enter 17 0 then Enter 16 1)))
    (1 ∷ 1 ∷ 2 ∷ 6 ∷ 3 ∷ 71 ∷ 4 ∷ 64 ∷ [])
    ∷ gives (all_told (history (site_for (turning square)) no_trays (start then Enter 0 17 then Enter 1 16 then Enter 17 0 then Enter 16 1 then Advance 1 then Advance 6 then Advance 71 then Advance 64)))
    ((1 ∷ 1 ∷ 2 ∷ 6 ∷ 3 ∷ 71 ∷ 4 ∷ 64 ∷ []) ++ (19 ∷ 1 ∷ 6 ∷ 19 ∷ 6 ∷ 71 ∷ 19 ∷ 71 ∷ 64 ∷ 19 ∷ 64 ∷ 1 ∷ []))
    -- row-first floor: tray 1 on segment 1, then on 6, then delivered after 2
    ∷ gives (all_told (history (site_for (row_first square)) no_trays (start then Enter 0 17 then Advance 1 then Advance 6)))
    (1 ∷ 1 ∷ 1 ∷ 1 ∷ 6 ∷ 1 ∷ 2 ∷ 65535 ∷ [])
    -- detour: first note 17, segments 2 and 65, notes 17 and 0
    ∷ gives (by_way.first 0 17 ∷ []) (17 ∷ [])
    ∷ gives (first_steps by_way 0 17 2) (2 ∷ 17 ∷ 65 ∷ 0 ∷ [])
    -- 2 x 1 with segment 1 closed, tree: refusal 13, from 0 to 1, step 1, no segments
    ∷ gives (checked (plan_check (tree_routing (line_closed (0 ∷ 1 ∷ []))))) (13 ∷ 0 ∷ 1 ∷ 1 ∷ 65535 ∷ 65535 ∷ [])
    -- with one stop: pass with nothing to check
    ∷ gives (checked (plan_check (tree_routing (line_closed (0 ∷ []))))) (0 ∷ 0 ∷ 0 ∷ [])
    -- the head block for 2 x 1 with stops 0 and 1 ends in the word 0xFCFDFDFF
    ∷ gives (take 4 (drop 508 line_file)) (0xFC ∷ 0xFD ∷ 0xFD ∷ 0xFF ∷ [])
    -- the file with table 0 east, 1 west and all keys 0 has 5,632 bytes, is read, and passes
    ∷ gives (length line_file ∷ refusals (read_outcome line_file)) (5632 ∷ [])
    ∷ gives (checked (plan_check (written line_file (line (0 ∷ 1 ∷ []))))) (2 ∷ 2 ∷ 1 ∷ [])
    ∷ []

-- each example gives what it must
abbrev pub AllHold : List Example → Type 0
AllHold [] = Unit {0}
AllHold (e ∷ es) = (e.given ≡ e.wanted) × AllHold es
