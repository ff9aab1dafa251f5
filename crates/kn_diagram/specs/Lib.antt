pub mod Diagrams
pub mod Traces
pub mod Widths
pub mod Wide
pub mod Censuses
