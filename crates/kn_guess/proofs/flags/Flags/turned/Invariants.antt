use Rattle.std.proofs.Common.{◌≡◌, ◌++◌, not, map, drop}
use Rattle.kn_guess.proofs.flags.Flags.turned.Given as goal

abbrev pub invariant-loop-flag : goal.invariant-loop-flag
invariant-loop-flag l = l.all.items ++ map not (drop l.flag-index l.self) ≡ map not l.self
