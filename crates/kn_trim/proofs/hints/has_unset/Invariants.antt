use Rattle.std.proofs.Common.{◌≡◌, drop}
use Rattle.kn_logic.specs.Propagation.{has_unset}
use Rattle.kn_trim.proofs.hints.has_unset.Given as goal

abbrev pub invariant-loop-lit : goal.invariant-loop-lit
invariant-loop-lit l = has_unset l.assumed.lits (drop l.lit-index l.lits) ≡ has_unset l.assumed.lits l.lits
