-- The first side on which the neighbour's depth is one less, test by test.
use Rattle.std.proofs.Common.{◌≡◌, ℕ, Bool, true, false, Some, None, Option, refl}
use Rattle.map.specs.declared.side.Side.{Side}
use Rattle.map.specs.declared.side.Side.TheVariants.{North, East, South, West}
use Rattle.links.specs.Trees.{nearer, up_side}

module _ (near : ℕ → Side → Option ℕ) (depth : ℕ → ℕ) (t : ℕ) where
  -- the test of a side came out so
  abbrev pub Told : Side → Bool → Type 0
  Told s b = nearer depth t (near t s) ≡ b

  pub up_north : Told North true → Some North ≡ up_side near depth t
  unfolding up_side
  up_north n = rw n refl

  pub up_east : Told North false → Told East true → Some East ≡ up_side near depth t
  unfolding up_side
  up_east n e = rw (n, e) refl

  pub up_south : Told North false → Told East false → Told South true → Some South ≡ up_side near depth t
  unfolding up_side
  up_south n e s = rw (n, e, s) refl

  pub up_west : Told North false → Told East false → Told South false → Told West true → Some West ≡ up_side near depth t
  unfolding up_side
  up_west n e s w = rw (n, e, s, w) refl

  pub up_none : Told North false → Told East false → Told South false → Told West false → None ≡ up_side near depth t
  unfolding up_side
  up_none n e s w = rw (n, e, s, w) refl
