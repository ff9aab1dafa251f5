mod Cuts
mod Values
mod Written
mod Spelled
pub mod Public
