pub mod Latest
pub mod Kinds
