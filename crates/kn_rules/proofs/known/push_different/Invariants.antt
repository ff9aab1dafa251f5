use Rattle.std.proofs.Common.{◌≡◌, drop}
use Rattle.kn_rules.specs.Steps.{are_different}
use Rattle.kn_rules.proofs.Different.{goes_on_different}
use Rattle.kn_rules.proofs.known.push_different.Given as goal

abbrev pub invariant-loop-lit : goal.invariant-loop-lit
invariant-loop-lit l = record {
  value : goes_on_different l.assumed.lits (drop l.lit-index l.lits) ≡ are_different l.lits;
  vars : l.assumed.vars ≡ l.fn.assumed.vars;
}
