pub mod Places
pub mod Copies
pub mod Verdicts
pub mod Searches
pub mod Spots
pub mod Judgements
pub mod Contents
pub mod Changes
