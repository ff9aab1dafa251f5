use Rattle.kn_logic.specs.Literals.{AreKnown}
use Rattle.kn_learn.proofs.tests.lits_of.Given as goal

abbrev pub invariant-loop-number : goal.invariant-loop-number
invariant-loop-number l = AreKnown 4 l.lits.items
