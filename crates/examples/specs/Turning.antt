-- The plan that turns: 0 east, 1 south, 17 west, 16 north, with keys 1, 2, 3, 4 on segments 1, 6, 71, 64.
use Rattle.std.specs.Prelude.{ℕ, cond, Some, None, Option, ◌==◌}
use Rattle.map.specs.declared.side.Side.{Side}
use Rattle.map.specs.declared.side.Side.TheVariants.{North, East, South, West}

abbrev pub turning_way : ℕ → Option (Side × ℕ)
turning_way t =
    cond (t == 0) (Some (East, 0)) (cond (t == 1) (Some (South, 0)) (cond (t == 17) (Some (West, 0)) (cond (t == 16) (Some (North, 0)) None)))

abbrev pub turning_key : ℕ → ℕ
turning_key n = cond (n == 1) 1 (cond (n == 6) 2 (cond (n == 71) 3 (cond (n == 64) 4 0)))
