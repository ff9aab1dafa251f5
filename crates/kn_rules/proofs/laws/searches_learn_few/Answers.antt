use Rattle.kn_rules.proofs.Few.{few-learned, few-forgetting}
use Rattle.kn_rules.proofs.laws.searches_learn_few.Goals as goal

pub returns : goal.returns
returns c = record { keeping = few-learned; forgetting = few-forgetting }
