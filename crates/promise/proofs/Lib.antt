pub mod Courses
pub mod Passes
pub mod Trees
