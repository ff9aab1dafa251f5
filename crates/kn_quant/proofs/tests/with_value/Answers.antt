use Rattle.kn_diagram.proofs.Public.{Keeps-along}
use Rattle.kn_quant.proofs.tests.with_value.Goals as goal

pub returns-clause-kept : goal.returns-clause-kept
returns-clause-kept c = Keeps-along _ _ _ c.of_clause-2.ensures.kept c.and.ensures.kept
