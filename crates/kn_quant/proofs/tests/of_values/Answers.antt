use Rattle.kn_diagram.proofs.Public.{Keeps-along}
use Rattle.kn_quant.proofs.tests.of_values.Goals as goal

pub returns-in_err-node-clause-kept : goal.returns-in_err-node-clause-kept
returns-in_err-node-clause-kept c = Keeps-along _ _ _ c.loop-at.invariant.kept c.with_value.ensures.kept

pub loop-at-preserved : goal.loop-at-preserved
loop-at-preserved c = record { kept = Keeps-along _ _ _ c.loop-at.invariant.kept c.with_value.ensures.kept; node = c.in_ok-node.ensures.node }
