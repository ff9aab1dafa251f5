use Rattle.kn_search.proofs.Budgets.{spent-small}
use Rattle.kn_search.proofs.laws.large_budgets_are_not_spent.Goals as goal

pub returns : goal.returns
returns c = spent-small
