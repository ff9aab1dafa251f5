-- For the crates above: the bits of an index, and an index with a value.
pub use Rattle.kn_tables.proofs.Bits.{has_bit-zero, has_bit-above, has_bit-low, has_bit-high, has_bit-mod, has_bit-with}
pub use Rattle.kn_tables.proofs.Places.{with-below}
