use Rattle.std.proofs.Common.{◌≡◌, drop, map}
use Rattle.kn_guess.specs.Flags.{lowered}
use Rattle.kn_guess.proofs.flags.Flags.lower_lits.Given as goal

abbrev pub invariant-loop-lit : goal.invariant-loop-lit
invariant-loop-lit l = lowered l.self (map (λ m. m.variable) (drop l.lit-index l.lits)) ≡ lowered l.fn.self (map (λ m. m.variable) l.lits)
