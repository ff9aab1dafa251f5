-- For the crates above: the clauses of a formula have its models.
pub use Rattle.kn_counter.proofs.Models.{model-extended, model-cut, all-clauses}
