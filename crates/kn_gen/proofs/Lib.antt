pub mod Truth
pub mod Fitting
pub mod Adding
pub mod Counting
