use Rattle.std.proofs.Common.{◌≡◌, take}
use Rattle.kn_justify.proofs.tests.first_clauses.Given as goal

abbrev pub invariant-loop-place : goal.invariant-loop-place
invariant-loop-place l = l.taken.items ≡ take l.place l.f.constraints
