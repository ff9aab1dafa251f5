pub mod Lessons
pub mod Reasons
pub mod Marking
pub mod Analyses
