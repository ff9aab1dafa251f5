use Rattle.std.proofs.Common.{◌≡◌, ◌++◌, take, map}
use Rattle.kn_logic.specs.Literals.{negated}
use Rattle.kn_trim.proofs.hints.push_negations.Given as goal

abbrev pub invariant-loop-lit : goal.invariant-loop-lit
invariant-loop-lit l = record {
  lits : l.assumed.lits ≡ l.fn.assumed.lits ++ map negated (take l.lit-index l.lits);
  vars : l.assumed.vars ≡ l.fn.assumed.vars;
}
