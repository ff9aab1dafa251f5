use Rattle.std.proofs.Common.{take}
use Rattle.kn_tables.specs.Tables.{AreBelow}
use Rattle.kn_tables.proofs.tests.are_below.Given as goal

abbrev pub invariant-loop-lit : goal.invariant-loop-lit
invariant-loop-lit l = AreBelow l.n (take l.lit-index l.lits)
