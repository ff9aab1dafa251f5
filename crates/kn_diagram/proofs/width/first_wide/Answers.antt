use Rattle.std.proofs.Common.{ap, length, arith}
use Rattle.kn_diagram.proofs.CountLemmas.{of_depth-within}
use Rattle.kn_diagram.proofs.width.first_wide.Goals as goal

pub returns-then-numbers-le-NARROW-clause-narrow : goal.returns-then-numbers-le-NARROW-clause-narrow
returns-then-numbers-le-NARROW-clause-narrow c k h =
    omega (arith, c.in_ok-set.ensures.widths k, of_depth-within c.args.d.now k c.in_ok-set.set, ap length c.numbers.ensures)
