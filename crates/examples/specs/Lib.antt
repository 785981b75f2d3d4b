pub mod Turning
pub mod Stores
pub mod Table
