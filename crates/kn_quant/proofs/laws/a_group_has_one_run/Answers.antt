use Rattle.kn_quant.proofs.OneRunLemmas.{one-run, never-wide}
use Rattle.kn_quant.proofs.laws.a_group_has_one_run.Goals as goal

pub returns : goal.returns
returns c = record { one = one-run; never = never-wide }
