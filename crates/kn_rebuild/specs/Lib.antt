pub mod Rebuilding
pub use Rattle.kn_extract.specs.Kept
