pub mod Used
pub mod Numbers
pub mod Needed
pub mod Marking
pub mod Noting
pub mod Reading
pub mod Trimming
