use Rattle.kn_quant.proofs.RebuiltLemmas.{rebuilt-hold, rebuilt-kept}
use Rattle.kn_quant.proofs.laws.rebuilt_values_hold.Goals as goal

pub returns : goal.returns
returns c = record { hold = rebuilt-hold; kept = rebuilt-kept }
