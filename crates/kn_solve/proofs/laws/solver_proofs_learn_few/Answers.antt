use Rattle.kn_solve.proofs.LearningLemmas.{opening-learns-none, proof-keeping, proof-forgetting}
use Rattle.kn_solve.proofs.laws.solver_proofs_learn_few.Goals as goal

pub returns : goal.returns
returns c = record { opening = opening-learns-none; keeping = proof-keeping; forgetting = proof-forgetting }
