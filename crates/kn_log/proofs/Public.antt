-- For the crates above: what several calls logged, one after another, and how it is read.
pub use Rattle.kn_log.proofs.Added.{AreSpelled-append, lines_bytes-append, Adds-none, Adds-one, Adds-join, Breaks-one, Breaks-join, Breaks-front, logs-such-not, logs-such, such-not-behind, such-behind}
pub use Rattle.kn_log.proofs.Text.{written_steps, written_proof, written_learned}
