pub mod Lines
pub mod Numbers
pub mod Lists
pub use Rattle.kn_logic.specs.Literals
