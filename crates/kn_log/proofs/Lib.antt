mod Text
mod Added
mod Failing
mod Twice
pub mod Public
