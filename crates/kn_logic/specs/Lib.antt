pub mod Literals
pub mod Assignments
pub mod Constraints
pub mod Formulas
pub mod Propagation
pub mod Newness
pub mod Groups
