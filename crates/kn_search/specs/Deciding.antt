-- Variables with values and without, as a search chooses among them, and the values that a trail gives to all.
use Rattle.std.specs.Prelude.{ℕ, ◌≡◌, ◌≤◌, Bool, true, false, List, length}
use Rattle.kn_logic.specs.Literals.{Literal, has, names}
use Rattle.kn_logic.specs.Assignments.{value_of}
use Rattle.kn_watch.specs.Trails.{Trailed, literals}

-- a variable of the trail that has no value
abbrev pub IsFreeVariable : Trailed → ℕ → Type 0
IsFreeVariable t variable = (1 ≤ variable) × (variable ≤ t.vars) × (names (literals t.made) variable ≡ false)

-- a literal of such a variable
abbrev pub IsFree : Trailed → Literal → Type 0
IsFree t l = IsFreeVariable t l.variable

-- the variables from 1 to this number have values
abbrev pub AreValued : List Literal → ℕ → Type 0
AreValued trail vars = (v : ℕ) → 1 ≤ v → v ≤ vars → names trail v ≡ true

-- each variable has a value
abbrev pub IsTotal : Trailed → Type 0
IsTotal t = AreValued (literals t.made) t.vars

-- the values that a list gives to the variables from 1 to a number
pub record AreValuesOf (vars : ℕ) (lits : List Literal) (values : List Bool) : Type 0 where
  pub count : length values ≡ vars
  pub exact : (v : ℕ) → 1 ≤ v → v ≤ vars → value_of values v ≡ has lits (record { variable = v; positive = true })
