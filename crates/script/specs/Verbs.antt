-- The words that a line can begin with, and what they stand for.
use Rattle.std.specs.Prelude.{ℕ, cond, List, Ok, Err, codes, Result}
use Rattle.std.specs.Str.{bytes_eq}
use Rattle.script.specs.declared.verb.Verb.{Verb}
use Rattle.script.specs.declared.verb.Verb.TheVariants.{Map, Stop, Unmark, Close, Reopen, Draw, Plan, Detour, Via, Unvia, Check, Open, Enter, Advance, Left, Look, Counts}
use Rattle.script.specs.declared.call.Fault.{Fault}
use Rattle.script.specs.declared.call.Fault.TheVariants.{NoSuchCall}
use Rattle.script.specs.declared.call.PlanKind.{PlanKind}
use Rattle.script.specs.declared.call.PlanKind.TheVariants.{RowFirst, Tree}

-- the first word of a line says which call it is
abbrev pub verb_of : List ℕ → Result Verb Fault
verb_of w =
    cond (bytes_eq w (codes "map")) (Ok Map)
    (cond (bytes_eq w (codes "stop")) (Ok Stop)
    (cond (bytes_eq w (codes "unmark")) (Ok Unmark)
    (cond (bytes_eq w (codes "close")) (Ok Close)
    (cond (bytes_eq w (codes "reopen")) (Ok Reopen)
    (cond (bytes_eq w (codes "draw")) (Ok Draw)
    (cond (bytes_eq w (codes "plan")) (Ok Plan)
    (cond (bytes_eq w (codes "detour")) (Ok Detour)
    (cond (bytes_eq w (codes "via")) (Ok Via)
    (cond (bytes_eq w (codes "unvia")) (Ok Unvia)
    (cond (bytes_eq w (codes "check")) (Ok Check)
    (cond (bytes_eq w (codes "open")) (Ok Open)
    (cond (bytes_eq w (codes "enter")) (Ok Enter)
    (cond (bytes_eq w (codes "advance")) (Ok Advance)
    (cond (bytes_eq w (codes "left")) (Ok Left)
    (cond (bytes_eq w (codes "look")) (Ok Look)
    (cond (bytes_eq w (codes "counts")) (Ok Counts) (Err NoSuchCall)))))))))))))))))

-- the plans that have names
abbrev pub plan_named : List ℕ → Result PlanKind Fault
plan_named w =
    cond (bytes_eq w (codes "row-first")) (Ok RowFirst)
    (cond (bytes_eq w (codes "tree")) (Ok Tree) (Err NoSuchCall))
