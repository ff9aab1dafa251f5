-- A store: constraints under ids that count from 1 and are never given twice. What is added last has the
-- highest id, so the constraints stand in the order in which they came.
use Rattle.std.specs.Prelude.{ℕ, ◌≤◌, ◌==◌, Bool, if◌then◌else◌, List, [], ◌∷◌, map, filter, Option, Some, None}
use Rattle.std.specs.List.{AllByRecursion}
use Rattle.std.specs.List.Sorted.{IsStrictlyIncreasing}
use Rattle.kn_logic.specs.Literals.{names}
use Rattle.kn_logic.specs.Constraints.{Bounded, named}
use Rattle.kn_logic.specs.Formulas.{Problem, IsFormula}

pub record Numbered : Type 0 where
  pub id : ℕ
  pub constraint : Bounded

-- a number of variables, the number of constraints ever added, and those that were not removed
pub record Stored : Type 0 where
  pub vars : ℕ
  pub added : ℕ
  pub live : List Numbered

abbrev pub constraints_of : List Numbered → List Bounded
constraints_of pairs = map (λ p. p.constraint) pairs

abbrev pub ids_of : List Numbered → List ℕ
ids_of pairs = map (λ p. p.id) pairs

-- the formula that the constraints make
abbrev pub problem_of : Stored → Problem
problem_of s = record { vars = s.vars; constraints = constraints_of s.live }

-- the constraint of an id; none where no constraint has it
abbrev pub constraint_at : List Numbered → ℕ → Option Bounded
constraint_at [] id = None
constraint_at (p ∷ ps) id = if p.id == id then Some p.constraint else constraint_at ps id

-- those whose constraint passes a test, in their order
abbrev pub chosen : (Bounded → Bool) → List Numbered → List Numbered
chosen test pairs = filter (λ p. test p.constraint) pairs

-- those whose constraint names the variable, its guard counted
abbrev pub naming : ℕ → List Numbered → List Numbered
naming variable pairs = chosen (λ c. names (named c) variable) pairs

-- what the type of a store keeps
pub record IsStored (s : Stored) : Type 0 where
  pub formula : IsFormula (problem_of s)
  pub ascending : IsStrictlyIncreasing (ids_of s.live)
  pub counted : AllByRecursion (λ p. (1 ≤ p.id) × (p.id ≤ s.added)) s.live
