use Rattle.std.proofs.Common.{◌≡◌, drop}
use Rattle.kn_guess.specs.Flags.{cleared}
use Rattle.kn_guess.proofs.flag_set.clear.Given as goal

abbrev pub invariant-loop-var : goal.invariant-loop-var
invariant-loop-var l = cleared l.flags.items (drop l.var-index l.vars) ≡ cleared l.fn.flags.items l.vars
