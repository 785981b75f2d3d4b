pub mod Refusals
pub mod Layouts
pub mod Outcomes
pub mod Plans
pub mod Copies
pub mod Promises
