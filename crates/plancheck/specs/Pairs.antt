-- The wanted pairs: two different stops, origins rising, then destinations rising.
use Rattle.std.specs.Prelude.{ℕ, suc, Bool, cond, List, [], ◌∷◌, ◌++◌, ◌==◌}
use Rattle.map.specs.Layouts.{Layout, is_stop}

-- the places of the flags that are set, where the first flag stands at place i
abbrev pub marked_from : ℕ → List Bool → List ℕ
marked_from i [] = []
marked_from i (b ∷ bs) = cond b (i ∷ marked_from (suc i) bs) (marked_from (suc i) bs)

-- the stops of a map, rising
abbrev pub stops_of : Layout → List ℕ
stops_of m = marked_from 0 m.stops

-- from origin o to each other stop
abbrev pub facing : ℕ → List ℕ → List (ℕ × ℕ)
facing o [] = []
facing o (d ∷ ds) = cond (d == o) (facing o ds) ((o, d) ∷ facing o ds)

-- the same from each of some origins
abbrev pub pairs_from : List ℕ → List ℕ → List (ℕ × ℕ)
pairs_from stops [] = []
pairs_from stops (o ∷ os) = facing o stops ++ pairs_from stops os

abbrev pub wanted_pairs : Layout → List (ℕ × ℕ)
wanted_pairs m = pairs_from (stops_of m) (stops_of m)

-- d where it is a stop
abbrev pub stop_at : Layout → ℕ → List ℕ
stop_at m d = cond (is_stop m d) (d ∷ []) []

-- the wanted pairs from origin o
abbrev pub pairs_of : Layout → ℕ → List (ℕ × ℕ)
pairs_of m o = cond (is_stop m o) (facing o (stops_of m)) []
