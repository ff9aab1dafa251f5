pub mod Cardinals
pub mod Verdicts
pub mod Numbers
pub mod Numbered
