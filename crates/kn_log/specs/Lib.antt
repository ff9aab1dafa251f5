pub mod Logs
pub mod Written
