use Rattle.std.proofs.Common.{arith}
use Rattle.kn_diagram.proofs.NodeLemmas.{constant-uncounted}
use Rattle.kn_diagram.proofs.width.count.Goals as goal

pub returns-else-number-ge2-clause-widths : goal.returns-else-number-ge2-clause-widths
returns-else-number-ge2-clause-widths c k h = omega (arith, constant-uncounted c.args.d.now c.args.node k (omega arith) h)
