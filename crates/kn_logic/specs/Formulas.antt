-- A formula is a number of variables and a list of constraints over the variables from 1 to it.
use Rattle.std.specs.Prelude.{ℕ, ◌≡◌, Bool, List, length}
use Rattle.std.specs.List.{AllByRecursion}
use Rattle.kn_logic.specs.Constraints.{Bounded, Holds, Fits}

-- called after the problem line of a DIMACS file, which gives both numbers
pub record Problem : Type 0 where
  pub vars : ℕ
  pub constraints : List Bounded

-- what the type of a formula keeps
abbrev pub IsFormula : Problem → Type 0
IsFormula f = AllByRecursion (Fits f.vars) f.constraints

-- A model of a formula is an assignment of its variables under which each constraint holds.
pub record Satisfies (values : List Bool) (f : Problem) : Type 0 where
  pub vars : length values ≡ f.vars
  pub hold : AllByRecursion (Holds values) f.constraints

abbrev pub IsUnsatisfiable : Problem → Type 0
IsUnsatisfiable f = (values : List Bool) → Satisfies values f → ⊥
