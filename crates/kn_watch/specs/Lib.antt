pub mod Trails
pub mod Tables
pub mod Watches
pub mod Quiet
