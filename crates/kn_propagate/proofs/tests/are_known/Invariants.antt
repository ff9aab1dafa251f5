use Rattle.std.proofs.Common.{ℕ, ◌<◌}
use Rattle.kn_logic.specs.Literals.{IsKnown}
use Rattle.kn_watch.specs.Watches.{lit_at}
use Rattle.kn_propagate.proofs.tests.are_known.Given as goal

abbrev pub invariant-loop-lit : goal.invariant-loop-lit
invariant-loop-lit l = (k : ℕ) → k < l.lit-index → IsKnown l.vars (lit_at l.lits k)
