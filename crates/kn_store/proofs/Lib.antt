mod Places
mod Emptied
mod Changed
mod Keeps
pub mod Public
