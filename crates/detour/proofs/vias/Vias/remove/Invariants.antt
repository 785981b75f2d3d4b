use Rattle.detour.proofs.Places.{Cleared}
use Rattle.detour.proofs.vias.Vias.remove.Given as goal

abbrev pub invariant-loop-place : goal.invariant-loop-place
invariant-loop-place l = Cleared l.origin l.destination l.fn.self.places l.place-items l.place-index
