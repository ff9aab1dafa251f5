pub mod Grids
pub mod Counters
pub mod Rows
pub mod Sizes
