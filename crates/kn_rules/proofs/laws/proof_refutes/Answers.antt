use Rattle.kn_rules.proofs.Sound.{proof-refutes}
use Rattle.kn_rules.proofs.laws.proof_refutes.Goals as goal

pub returns : goal.returns
returns c = proof-refutes
