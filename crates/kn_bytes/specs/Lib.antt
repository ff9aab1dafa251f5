pub mod Memory
pub mod Outside
pub mod ReadAll
pub mod System
