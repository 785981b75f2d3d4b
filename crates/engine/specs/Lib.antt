pub mod Finders
pub mod Plans
pub mod Texts
pub mod Uses
pub mod Answers
pub mod Laters
pub mod Sessions
pub mod Tallies
