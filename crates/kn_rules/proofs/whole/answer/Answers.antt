use Rattle.kn_rules.proofs.Faults.{ok-if_verified}
use Rattle.kn_rules.proofs.whole.answer.Goals as goal

pub returns-clause-formula : goal.returns-clause-formula
returns-clause-formula c = ok-if_verified _ c.check_lines.result c.is_header.ensures.formula
