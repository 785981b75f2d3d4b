-- A segment held, as the check of a route keeps it: with its key.
use Rattle.std.specs.Prelude.{ℕ, Bool, true, Some, None, Option}
use Rattle.routes.specs.declared.route.Held.{Held}

-- which segment is held
abbrev pub segment_of : {K : Type 0} → Option (Held K) → Option ℕ
segment_of None = None
segment_of (Some h) = Some h.segment

-- whether a segment with key k may be wanted: at the first step nothing is held
abbrev pub may_follow : {K : Type 0} → (K → K → Bool) → Option (Held K) → K → Bool
may_follow before None k = true
may_follow before (Some h) k = before h.key k
