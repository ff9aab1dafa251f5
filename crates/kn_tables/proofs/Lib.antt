pub mod Bits
pub mod Places
pub mod Tabled
pub mod FourWords
pub mod Public
pub mod Counting
