use Rattle.kn_logic.specs.Literals.{AreKnown}
use Rattle.kn_guess.proofs.tests.clause_of.Given as goal

abbrev pub invariant-loop-number : goal.invariant-loop-number
invariant-loop-number l = AreKnown l.vars l.lits.items
