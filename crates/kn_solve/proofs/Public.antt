-- For the crates above: how few clauses a solver's proof learns.
pub use Rattle.kn_solve.proofs.LearningLemmas.{opening-learns-none, proof-keeping, proof-forgetting}
