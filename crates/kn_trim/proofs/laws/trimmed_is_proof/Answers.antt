use Rattle.kn_trim.proofs.Sound.{trimmed-is-proof}
use Rattle.kn_trim.proofs.laws.trimmed_is_proof.Goals as goal

pub returns : goal.returns
returns c = trimmed-is-proof
