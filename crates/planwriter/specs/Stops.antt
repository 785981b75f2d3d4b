-- The stops of a map in rising order.
use Rattle.std.specs.Prelude.{ℕ, zero, suc, ◌+◌, cond, List, [], ◌∷◌}
use Rattle.map.specs.Layouts.{Layout, is_stop}

-- those among m tables from table t on
unfoldable pub stops_from : Layout → ℕ → ℕ → List ℕ
stops_from layout zero t = []
stops_from layout (suc m) t = cond (is_stop layout t) (t ∷ stops_from layout m (t + 1)) (stops_from layout m (t + 1))

abbrev pub stops_of : Layout → List ℕ
stops_of layout = stops_from layout 256 0
