-- The diagram of a clause, as a justification goes down it: at each node one of its two nodes is "true".
use Rattle.std.specs.Prelude.{ℕ, ◌≡◌, ◌⊎◌, Bool, true, List, Option, Some}
use Rattle.std.specs.List.{list_any}
use Rattle.kn_logic.specs.Literals.{Literal, negated, has}
use Rattle.kn_logic.specs.Constraints.{Bounded}
use Rattle.kn_lines.specs.declared.line.Arm.TheVariants as arm
use Rattle.kn_rules.specs.declared.given.Given.{Given}
use Rattle.kn_rules.specs.Steps.{opposite, hinted}
use Rattle.kn_diagram.specs.Diagrams.{Table, IsNode, function_of, is_true_by}
use Rattle.kn_justify.specs.Arms.{Has, IsSound, run_on}
use Rattle.kn_justify.specs.declared.name.Name.{Name}
use Rattle.kn_justify.specs.Names.{arm_at}

-- How far the hints have come. Where the first node is refuted, they refute the node that is next, whose function is that
-- of the literals that are left, and each other literal.
pub record Chain (given : List Given) (d : Table) (names : List (ℕ × Name)) (lits : List Literal) (f node : ℕ) (hints : List ℕ) : Type 0 where
  pub cs : List Bounded
  pub live : hinted given hints ≡ Some cs
  pub rest : List Literal
  pub there : IsNode d node
  pub function : (v : ℕ → Bool) → function_of d node v ≡ list_any (is_true_by v) rest
  pub sound : (run : Option (List Literal)) → IsSound run → IsSound (run_on run cs)
  pub next : (run : Option (List Literal)) → IsSound run → Has run (opposite (arm_at names f)) → Has (run_on run cs) (opposite (arm_at names node))
  pub refuted : (run : Option (List Literal)) → IsSound run → Has run (opposite (arm_at names f)) → (l : Literal) → has lits l ≡ true → (has rest l ≡ true) ⊎ Has (run_on run cs) (arm.Lit (negated l))
