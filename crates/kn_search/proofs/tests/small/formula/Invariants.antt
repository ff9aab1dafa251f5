use Rattle.std.proofs.Common.{◌≡◌}
use Rattle.kn_search.proofs.tests.small.formula.Given as goal

abbrev pub invariant-loop : goal.invariant-loop
invariant-loop l = l.f.vars ≡ 5
