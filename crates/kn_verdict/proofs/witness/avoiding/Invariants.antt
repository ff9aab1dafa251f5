use Rattle.std.proofs.Common.{◌≡◌, map, take, not, if◌then◌else◌}
use Rattle.kn_logic.specs.Literals.{Literal}
use Rattle.kn_verdict.proofs.witness.avoiding.Given as goal

abbrev pub invariant-loop-lit : goal.invariant-loop-lit
invariant-loop-lit l = l.values.items ≡ map (λ (x : Literal). if l.want then not x.positive else x.positive) (take l.lit-index l.lit-items)
