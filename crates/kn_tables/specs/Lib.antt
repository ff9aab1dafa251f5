pub mod Indices
pub mod Tables
pub mod Words
