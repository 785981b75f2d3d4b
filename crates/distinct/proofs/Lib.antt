pub mod Holes
pub mod Numbered
