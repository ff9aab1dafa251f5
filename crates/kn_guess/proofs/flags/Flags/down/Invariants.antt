use Rattle.std.proofs.Common.{◌≡◌, false, replicate}
use Rattle.kn_guess.proofs.flags.Flags.down.Given as goal

abbrev pub invariant-loop : goal.invariant-loop
invariant-loop l = l.all.items ≡ replicate l.counter false
