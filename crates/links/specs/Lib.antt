pub mod Links
pub mod Groups
pub mod Distances
pub mod Trees
pub mod Ways
pub mod Courses
pub mod Words
