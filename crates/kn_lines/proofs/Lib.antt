mod Spelling
mod Text
mod Written
pub mod Public
