use Rattle.kn_logic.specs.Literals.{AreKnown, AreDifferent}
use Rattle.kn_counter.proofs.tests.numbered.Given as goal

abbrev pub invariant-loop-place : goal.invariant-loop-place
invariant-loop-place l = AreKnown l.place l.lits.items × AreDifferent l.lits.items
