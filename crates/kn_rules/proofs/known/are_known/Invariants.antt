use Rattle.std.proofs.Common.{◌≡◌, drop}
use Rattle.kn_rules.specs.Steps.{are_known}
use Rattle.kn_rules.proofs.known.are_known.Given as goal

abbrev pub invariant-loop-lit : goal.invariant-loop-lit
invariant-loop-lit l = are_known l.vars (drop l.lit-index l.lits) ≡ are_known l.vars l.lits
