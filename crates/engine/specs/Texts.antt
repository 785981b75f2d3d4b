-- What is printed of an outcome: a refusal by its number, and the fields that it names.
use Rattle.std.specs.Prelude.{ℕ, List, ◌++◌, Some, None, codes, decimal, Option}
use Rattle.map.specs.Refusals as OfMap
use Rattle.detour.specs.Vias as OfVias
use Rattle.routes.specs.Refusals as OfRoutes
use Rattle.trays.specs.Refusals as OfTrays
use Rattle.engine.specs.declared.outcome.Refused as Refusals
use Rattle.engine.specs.declared.outcome.Refused.TheVariants.{ByMap, ByDetour, ByCheck, ByFloor}
use Rattle.engine.specs.declared.outcome.Failure.{Failure}
use Rattle.engine.specs.declared.outcome.Failure.TheVariants as Failures
use Rattle.engine.specs.declared.outcome.Outcome.{Outcome}
use Rattle.engine.specs.declared.outcome.Outcome.TheVariants.{Done, Drawn, Passed, LetIn, Advanced, SegmentsLeft, Seen, Counted}

-- a number, with a word before it
abbrev pub field : List ℕ → ℕ → List ℕ
field name n = name ++ decimal n

abbrev pub by_number : ℕ → List ℕ
by_number n = field (codes "refused ") n

abbrev pub held_and_wanted : ℕ → Option (ℕ × ℕ) → List ℕ
held_and_wanted n None = by_number n
held_and_wanted n (Some p) = codes "refused " ++ (decimal n ++ (codes ": held " ++ (decimal p.0 ++ (codes ", wanted " ++ decimal p.1))))

abbrev pub refused_text : Refusals.Refused → List ℕ
refused_text (ByMap e) = by_number (OfMap.refusal_number e)
refused_text (ByDetour e) = by_number (OfVias.refusal_number e)
refused_text (ByCheck e) =
    codes "refused " ++ (decimal (OfRoutes.reason_number e.reason)
    ++ (codes ": origin " ++ (decimal e.origin
    ++ (codes ", destination " ++ (decimal e.destination
    ++ (codes ", step " ++ (decimal e.step
    ++ (codes ", held " ++ (decimal e.held
    ++ (codes ", wanted " ++ decimal e.wanted))))))))))
refused_text (ByFloor e) = held_and_wanted (OfTrays.refusal_number e) (OfTrays.refusal_segments e)

abbrev pub outcome_text : Outcome → List ℕ
outcome_text Done = codes "ok"
outcome_text Drawn = codes "ok"
outcome_text (Passed a) =
    codes "pass: pairs " ++ (decimal a.pairs
    ++ (codes ", segments " ++ (decimal a.segments
    ++ (codes ", longest " ++ decimal a.longest))))
outcome_text (LetIn a) =
    codes "tray " ++ (decimal a.tray
    ++ (codes ", segment " ++ decimal a.segment))
outcome_text (Advanced a) =
    codes "tray " ++ (decimal a.tray
    ++ (codes ", advances " ++ (decimal a.advances
    ++ (codes ", segment " ++ decimal a.segment))))
outcome_text (SegmentsLeft n) = decimal n
outcome_text (Seen a) =
    codes "tray " ++ (decimal a.number
    ++ (codes ", destination " ++ (decimal a.destination
    ++ (codes ", note " ++ (decimal a.note
    ++ (codes ", advances " ++ decimal a.advances))))))
outcome_text (Counted a) =
    codes "in " ++ (decimal a.entered
    ++ (codes ", delivered " ++ (decimal a.delivered
    ++ (codes ", floor " ++ decimal a.on_floor))))

-- what is printed of a failure: of a refusal its text; what is printed of an error is not stated
abbrev pub failure_text : Failure → Option (List ℕ)
failure_text (Failures.Refused e) = Some (refused_text e)
failure_text (Failures.Wrong w) = None
