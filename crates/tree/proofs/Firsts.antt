-- The first side that passes, as std finds it.
use Rattle.std.proofs.Common.{◌≡◌, Bool, cond, List, [], ◌∷◌, Some, refl, ap}
use Rattle.std.specs.List.{find}
use Rattle.map.specs.declared.side.Side.{Side}
use Rattle.links.specs.Trees.{first_side}

pub first_found : (test : Side → Bool) (ss : List Side) → find test ss ≡ first_side test ss
first_found test [] = refl
first_found test (s ∷ ss) = ap (λ x. cond (test s) (Some s) x) (first_found test ss)
