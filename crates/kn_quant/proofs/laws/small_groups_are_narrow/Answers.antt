use Rattle.kn_quant.proofs.HangLemmas.{small-narrow}
use Rattle.kn_quant.proofs.laws.small_groups_are_narrow.Goals as goal

pub returns : goal.returns
returns c = small-narrow
