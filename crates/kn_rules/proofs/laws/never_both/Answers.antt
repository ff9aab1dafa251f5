use Rattle.kn_rules.proofs.Faults.{never_both, one_fault}
use Rattle.kn_rules.proofs.laws.never_both.Goals as goal

pub returns : goal.returns
returns c = record { both = never_both; one = one_fault }
