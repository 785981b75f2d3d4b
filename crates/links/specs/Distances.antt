-- How many links one table is from another: the number of the first layer that has it, where the layers
-- around a table are the table alone, the tables one link further, and so on.
use Rattle.std.specs.Prelude.{ℕ, zero, suc, Bool, false, cond, ◌||◌, List, [], ◌∷◌, ◌++◌, Some, None, Option, ◌==◌}
use Rattle.map.specs.declared.side.Side.{Side}
use Rattle.map.specs.declared.side.Side.TheVariants.{North, East, South, West}

-- t is in the list
unfoldable pub has : ℕ → List ℕ → Bool
has t [] = false
has t (x ∷ xs) = t == x || has t xs

-- a table joins the layer unless it was reached before or is in the layer already
unfoldable pub put : List ℕ → Option ℕ → List ℕ → List ℕ
put reached None layer = layer
put reached (Some u) layer = cond (has u reached || has u layer) layer (u ∷ layer)

-- the tables over the links of t join the layer
unfoldable pub around : (ℕ → Side → Option ℕ) → List ℕ → ℕ → List ℕ → List ℕ
around near reached t layer =
    put reached (near t West) (put reached (near t South) (put reached (near t East) (put reached (near t North) layer)))

-- the layer one link further
unfoldable pub beyond : (ℕ → Side → Option ℕ) → List ℕ → List ℕ → List ℕ
beyond near reached [] = []
beyond near reached (t ∷ ts) = around near reached t (beyond near reached ts)

-- the number of the first of n layers that has b: the one at hand, which is not empty, has the number k,
-- and the tables reached so far are in it or in earlier ones
unfoldable pub layer_of : (ℕ → Side → Option ℕ) → ℕ → ℕ → List ℕ → List ℕ → ℕ → Option ℕ
layer_of near zero k reached layer b = None
layer_of near (suc n) k reached [] b = None
layer_of near (suc n) k reached (x ∷ xs) b =
    cond (has b (x ∷ xs)) (Some k) (layer_of near n (suc k) (beyond near reached (x ∷ xs) ++ reached) (beyond near reached (x ∷ xs)) b)

-- there are 256 tables at most, so no table is in a later layer than these
unfoldable pub distance : (ℕ → Side → Option ℕ) → ℕ → ℕ → Option ℕ
distance near a b = layer_of near 256 0 (a ∷ []) (a ∷ []) b
