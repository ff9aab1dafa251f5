pub mod Extractions
pub use Rattle.kn_store.specs.Stores
pub use Rattle.kn_guess.specs.Guesses
pub use Rattle.kn_verdict.specs.Cardinals
pub mod Structure
pub mod Kept
pub mod Texts
pub mod Taking
