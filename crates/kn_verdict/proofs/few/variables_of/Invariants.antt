use Rattle.std.proofs.Common.{◌≡◌, map, take}
use Rattle.kn_verdict.proofs.few.variables_of.Given as goal

abbrev pub invariant-loop-lit : goal.invariant-loop-lit
invariant-loop-lit l = l.variables.items ≡ map (λ x. x.variable) (take l.lit-index l.border)
