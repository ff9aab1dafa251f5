pub mod Openings
pub mod Entries
pub use Rattle.kn_extract.specs.Kept
pub use Rattle.kn_log.specs.Written
