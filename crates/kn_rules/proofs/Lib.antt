mod Truth
mod Deleting
mod Entering
mod MarkLemmas
mod Nodes
mod OneCount
mod DemandLemmas
mod Different
mod Extending
mod Defining
mod Units
mod Ready
mod Sound
mod Faults
mod Stepping
mod Codes
mod Few
pub mod Public
