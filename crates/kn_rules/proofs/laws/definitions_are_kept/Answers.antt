use Rattle.kn_rules.proofs.Stepping.{define-defines, define-keeps, step-keeps, step-within}
use Rattle.kn_rules.proofs.laws.definitions_are_kept.Goals as goal

pub returns : goal.returns
returns c = record { new = define-defines; others = define-keeps; kept = step-keeps; within = step-within }
