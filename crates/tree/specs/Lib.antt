pub mod Growths
pub mod Nodes
pub mod Finders
