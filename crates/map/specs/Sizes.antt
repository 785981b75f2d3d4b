-- How large a floor may be.
use Rattle.std.specs.Prelude.{ℕ, Bool, ◌&&◌, nat_le}

abbrev pub fits_size : ℕ → Bool
fits_size n = nat_le 1 n && nat_le n 16
