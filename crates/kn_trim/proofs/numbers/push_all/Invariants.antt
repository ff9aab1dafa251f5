use Rattle.std.proofs.Common.{◌≡◌, ◌++◌, replicate}
use Rattle.kn_trim.proofs.numbers.push_all.Given as goal

abbrev pub invariant-loop : goal.invariant-loop
invariant-loop l = l.numbers ≡ l.fn.numbers ++ replicate l.counter l.kept
