pub mod Mirrors
pub mod Outcomes
pub mod Deciding
pub mod Searches
