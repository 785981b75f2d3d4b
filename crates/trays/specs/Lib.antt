pub mod Refusals
pub mod Sites
pub mod Outcomes
pub mod Lefts
pub mod Logs
pub mod Runs
pub mod Words
pub mod Promises
