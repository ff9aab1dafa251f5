use Rattle.kn_log.proofs.Text.{written_steps, written_proof}
use Rattle.kn_log.proofs.laws.written_proof_is_read.Goals as goal

pub returns : goal.returns
returns c = record { steps = written_steps; proof = written_proof }
