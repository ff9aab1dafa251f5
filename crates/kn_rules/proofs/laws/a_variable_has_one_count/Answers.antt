use Rattle.kn_rules.proofs.OneCount.{one-count}
use Rattle.kn_rules.proofs.laws.a_variable_has_one_count.Goals as goal

pub returns : goal.returns
returns c = one-count
