use Rattle.std.proofs.Common.{◌≡◌, ◌+◌, ◌*◌, [], replicate}
use Rattle.kn_guess.proofs.rows.empty_rows.Given as goal

abbrev pub invariant-loop : goal.invariant-loop
invariant-loop l = l.rows.items ≡ replicate (2 * l.counter + 2) []
