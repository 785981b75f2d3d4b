-- The open links of a map.
use Rattle.std.specs.Prelude.{ℕ, Bool, cond, not, ◌&&◌, None, Option}
use Rattle.map.specs.declared.side.Side.{Side}
use Rattle.map.specs.Layouts.{Layout, on_map, beside_in, table_closed, link_open}

-- the neighbour of t on side s, where the link to it is open
unfoldable pub near : Layout → ℕ → Side → Option ℕ
near m t s = cond (link_open m t s) (beside_in m t s) None

-- on the floor, and not closed
abbrev pub present : Layout → ℕ → Bool
present m t = on_map m t && not (table_closed m t)
