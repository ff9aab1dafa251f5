use Rattle.std.proofs.Common.{◌≡◌, drop}
use Rattle.kn_guess.specs.Flags.{lowered}
use Rattle.kn_guess.proofs.flags.Flags.lower_all.Given as goal

abbrev pub invariant-loop-var : goal.invariant-loop-var
invariant-loop-var l = lowered l.self (drop l.var-index l.vars) ≡ lowered l.fn.self l.vars
