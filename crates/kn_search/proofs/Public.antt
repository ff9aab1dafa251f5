-- For the crates above: an engine with the constraints of a formula, what a model of it is, and how large a budget that was
-- spent can be.
pub use Rattle.kn_search.proofs.Mirroring.{live-all, added-found, added-other}
pub use Rattle.kn_search.proofs.Loaded.{model-satisfies, none-learned}
pub use Rattle.kn_search.proofs.Budgets.{spent-small}
