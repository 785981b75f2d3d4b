pub mod Stops
pub mod Files
pub mod Written
pub mod Promises
