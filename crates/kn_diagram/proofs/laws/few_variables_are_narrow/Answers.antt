use Rattle.kn_diagram.proofs.FewLemmas.{few-narrow}
use Rattle.kn_diagram.proofs.laws.few_variables_are_narrow.Goals as goal

pub returns : goal.returns
returns c = few-narrow
