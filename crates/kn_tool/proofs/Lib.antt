mod Examples
pub mod Options
pub mod Shapes
pub mod Replies
pub mod Readings
pub mod Reading
pub mod Solutions
pub mod Solved
pub mod Worked
pub mod Limits
pub mod Complete
pub mod Headline
