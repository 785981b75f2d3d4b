-- The plan of a store: what a new one is, and how its vias change.
use Rattle.std.specs.Prelude.{Some, None, Option, Result}
use Rattle.script.specs.declared.call.ViaChange.{ViaChange}
use Rattle.script.specs.declared.call.ViaChange.TheVariants.{AddVia, RemoveVia}
use Rattle.detour.specs.declared.vias.Vias.{Vias}
use Rattle.detour.specs.declared.refusal.Refusal.{Refusal}
use Rattle.detour.specs.declared.detour.Detour.{Detour}
use Rattle.detour.specs.Vias.{add_via, remove_via, told, after}
use Rattle.detour.specs.Detours.{with_vias}
use Rattle.plancheck.specs.declared.pass.Pass.{Pass}
use Rattle.routes.specs.declared.refusal.Refusal as Judgement
use Rattle.engine.specs.declared.finder.Named.{Named}
use Rattle.engine.specs.declared.finder.Finder.{Finder}
use Rattle.engine.specs.declared.finder.Finder.TheVariants.{Bare, Once, Twice, Thrice}
use Rattle.engine.specs.declared.plan.Plan.{Plan}

-- a new plan has no detour, and the check said nothing of it yet
abbrev pub new_plan : Named → Plan
new_plan w = record { named = w; finder = Bare w; verdict = None }

-- with another way-finder, of which the check said nothing yet
abbrev pub with_finder : Plan → Finder → Plan
with_finder p w = record { named = p.named; finder = w; verdict = None }

abbrev pub judged : Plan → Result Pass Judgement.Refusal → Plan
judged p v = record { named = p.named; finder = p.finder; verdict = Some v }

-- the detour's own answer to a change of its vias
abbrev pub via_changed : Vias → ViaChange → Result Vias Refusal
via_changed v (AddVia o d t) = add_via v o d t
via_changed v (RemoveVia o d) = remove_via v o d

abbrev pub told_of : {W : Type 0} → Detour W → ViaChange → Option (Result (Unit {0}) Refusal)
told_of w x = Some (told (via_changed w.vias x))

abbrev pub later_of : {W : Type 0} → Detour W → ViaChange → Detour W
later_of w x = with_vias w (after w.vias (via_changed w.vias x))

-- the uppermost detour is asked, and without one there is no answer
abbrev pub via_answer : Finder → ViaChange → Option (Result (Unit {0}) Refusal)
via_answer (Bare w) x = None
via_answer (Once w) x = told_of w x
via_answer (Twice w) x = told_of w x
via_answer (Thrice w) x = told_of w x

abbrev pub via_later : Finder → ViaChange → Finder
via_later (Bare w) x = Bare w
via_later (Once w) x = Once (later_of w x)
via_later (Twice w) x = Twice (later_of w x)
via_later (Thrice w) x = Thrice (later_of w x)
