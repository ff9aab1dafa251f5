use Rattle.std.proofs.Common.{◌≡◌, ◌++◌, take, map}
use Rattle.kn_logic.specs.Literals.{negated}
use Rattle.kn_rules.proofs.hints.push_negations.Given as goal

abbrev pub invariant-loop-lit : goal.invariant-loop-lit
invariant-loop-lit l = (l.assumed.lits ≡ l.fn.assumed.lits ++ map negated (take l.lit-index l.lits)) × (l.assumed.vars ≡ l.fn.assumed.vars)
