pub mod Vias
pub mod Detours
pub mod Promises
