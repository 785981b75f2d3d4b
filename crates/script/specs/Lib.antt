pub mod Verbs
pub mod Numbers
pub mod Parts
pub mod Calls
pub mod Wordings
