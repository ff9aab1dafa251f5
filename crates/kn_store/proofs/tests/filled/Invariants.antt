use Rattle.std.proofs.Common.{◌≡◌}
use Rattle.kn_store.proofs.tests.filled.Given as goal

abbrev pub invariant-loop : goal.invariant-loop
invariant-loop l = record { vars : l.s.vars ≡ 2; added : l.s.added ≡ l.counter }
