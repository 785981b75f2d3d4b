pub mod Stops
pub mod Flags
pub mod Rules
