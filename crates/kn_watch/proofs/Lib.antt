mod Within
mod Settled
mod Growing
mod Starting
mod TrailKeeps
mod Forcing
mod Looks
mod Cutting
mod Tabled
pub mod Public
