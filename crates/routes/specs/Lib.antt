pub mod Refusals
pub mod Holdings
pub mod Routings
pub mod Steps
pub mod Routes
