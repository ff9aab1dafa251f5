use Rattle.std.proofs.Common.{◌≡◌}
use Rattle.kn_guess.proofs.tests.filled.Given as goal

abbrev pub invariant-loop-row : goal.invariant-loop-row
invariant-loop-row l = record { vars : l.s.vars ≡ l.vars; added : l.s.added ≡ l.row-index }
