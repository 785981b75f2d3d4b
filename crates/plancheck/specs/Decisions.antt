-- What a pass says of a plan, and what a refusal says.
use Rattle.std.specs.Prelude.{◌≡◌, ℕ, ◌+◌, true, List, [], ◌∷◌, ◌++◌, length, Ok, Err, Result, ◌≢◌}
use Rattle.map.specs.Layouts.{is_stop}
use Rattle.routes.specs.declared.refusal.Refusal.{Refusal}
use Rattle.routes.specs.Routings.{Routing}
use Rattle.routes.specs.Routes.{Route, Fault}
use Rattle.plancheck.specs.declared.pass.Pass.{Pass}
use Rattle.plancheck.specs.Totals.{larger}
use Rattle.plancheck.specs.Pairs.{wanted_pairs}
use Rattle.plancheck.specs.Wanted.{PairIn}

-- the segments of the pairs' routes together
abbrev pub all_segments : (ℕ → ℕ → List ℕ) → List (ℕ × ℕ) → ℕ
all_segments routes [] = 0
all_segments routes (p ∷ ps) = length (routes p.0 p.1) + all_segments routes ps

-- the segments of the longest of them
abbrev pub longest_route : (ℕ → ℕ → List ℕ) → List (ℕ × ℕ) → ℕ
longest_route routes [] = 0
longest_route routes (p ∷ ps) = larger (length (routes p.0 p.1)) (longest_route routes ps)

-- every two different stops have a route, and a is what these routes come to
pub record Passed (s : Routing) (a : Pass) : Type 0 where
  pub routes : ℕ → ℕ → List ℕ
  pub routed : (o d : ℕ) → is_stop s.map o ≡ true → is_stop s.map d ≡ true → (o ≢ d) → Route s o d (routes o d)
  pub pairs : a.pairs ≡ length (wanted_pairs s.map)
  pub segments : a.segments ≡ all_segments routes (wanted_pairs s.map)
  pub longest : a.longest ≡ longest_route routes (wanted_pairs s.map)

-- the first of the wanted pairs that has no route fails for e
pub record Fails (s : Routing) (e : Refusal) : Type 0 where
  pub earlier : List (ℕ × ℕ)
  pub origin : ℕ
  pub destination : ℕ
  pub later : List (ℕ × ℕ)
  pub wanted : wanted_pairs s.map ≡ earlier ++ (origin, destination) ∷ later
  pub routed : (o d : ℕ) → PairIn o d earlier → (qs : List ℕ) × Route s o d qs
  pub fault : Fault s origin destination e
  pub no_route : (qs : List ℕ) → Route s origin destination qs → ⊥

-- the answer is a pass exactly where the plan passes so, and a refusal exactly where it fails so
pub record Decided (s : Routing) (r : Result Pass Refusal) : Type 0 where
  pub passes : (a : Pass) → r ≡ Ok a → Passed s a
  pub passed : (a : Pass) → Passed s a → r ≡ Ok a
  pub refuses : (e : Refusal) → r ≡ Err e → Fails s e
  pub failing : (e : Refusal) → Fails s e → r ≡ Err e
