use Rattle.std.proofs.Common.{◌≡◌, drop}
use Rattle.kn_guess.specs.Flags.{raised}
use Rattle.kn_guess.proofs.marks.raise_all.Given as goal

abbrev pub invariant-loop-lit : goal.invariant-loop-lit
invariant-loop-lit l = raised l.mark l.c l.flags (drop l.lit-index l.lits) ≡ raised l.mark l.c l.fn.flags l.lits
