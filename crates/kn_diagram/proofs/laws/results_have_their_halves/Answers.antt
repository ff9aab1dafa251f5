use Rattle.kn_diagram.proofs.ChildLemmas.{high-is, low-is}
use Rattle.kn_diagram.proofs.laws.results_have_their_halves.Goals as goal

pub returns : goal.returns
returns c = record { high = high-is; low = low-is }
