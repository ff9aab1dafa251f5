-- Variables that are defined in a proof, with the four clauses of their definitions.
use Rattle.std.specs.Prelude.{◌≡◌, ◌+◌, ◌∷◌, true, [], Some}
use Rattle.kn_logic.specs.Literals.{Literal, negated, IsKnown}
use Rattle.kn_lines.specs.declared.line.Arm.{Arm}
use Rattle.kn_rules.specs.States.{ProofState, definition_of, live_at}
use Rattle.kn_rules.specs.Steps.{opposite, with_arm}
use Rattle.kn_justify.specs.declared.name.Name.{Name}

-- The variable is defined as "if x then high else low", and the four clauses of its definition are live, from the
-- id that is kept with it on.
pub record IsDefined (s : ProofState) (n : Name) (x : Literal) (high low : Arm) : Type 0 where
  pub positive : n.lit.positive ≡ true
  pub known : IsKnown s.vars n.lit
  pub definition : definition_of s n.lit.variable ≡ Some (record { test = x; high = high; low = low })
  pub high_down : live_at s.given (n.id + 0) ≡ Some (with_arm (negated n.lit ∷ negated x ∷ []) high)
  pub low_down : live_at s.given (n.id + 1) ≡ Some (with_arm (negated n.lit ∷ x ∷ []) low)
  pub high_up : live_at s.given (n.id + 2) ≡ Some (with_arm (n.lit ∷ negated x ∷ []) (opposite high))
  pub low_up : live_at s.given (n.id + 3) ≡ Some (with_arm (n.lit ∷ x ∷ []) (opposite low))
