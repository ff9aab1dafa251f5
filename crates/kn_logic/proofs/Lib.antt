mod Examples
pub mod Public
