pub mod Missing
pub mod Spreads
pub mod Sweeps
pub mod Firsts
pub mod Climbs
pub mod Held
