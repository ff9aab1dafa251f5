use Rattle.std.proofs.Common.{◌≡◌, ◌++◌, [], drop, map}
use Rattle.kn_guess.specs.Pairing.{positives}
use Rattle.kn_guess.proofs.covering.ascending_literals.Given as goal

abbrev pub invariant-loop-lit : goal.invariant-loop-lit
invariant-loop-lit l = record {
  variables : l.variables.items ++ map (λ m. m.variable) (drop l.lit-index l.group) ≡ map (λ m. m.variable) l.group;
  positive : positives l.positive (drop l.lit-index l.group) ≡ positives [] l.group;
}
