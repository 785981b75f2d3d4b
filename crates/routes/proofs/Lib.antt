pub mod Places
pub mod Forward
pub mod Turns
pub mod Limits
pub mod Loops
pub mod Faults
pub mod Courses
pub mod Exactly
