pub mod Pairs
pub mod Wanted
pub mod Totals
pub mod Plans
pub mod Decisions
pub mod Longest
pub mod Questions
