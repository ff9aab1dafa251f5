pub mod Grammar
pub mod Faults
pub mod FirstFaults
pub mod Reading
pub mod Texts
pub mod Writing
