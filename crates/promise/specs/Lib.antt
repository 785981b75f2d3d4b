pub mod Floors
pub mod Trees
