mod Naming
mod Choices
mod Ids
mod Hinted
mod Mirroring
mod Parts
mod Once
mod Held
mod Levels
mod Models
mod Forgotten
mod Splits
mod Closing
mod Loaded
mod Budgets
pub mod Public
