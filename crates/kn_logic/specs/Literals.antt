-- Literals: a variable, and whether it is asked to be true. DIMACS CNF writes the literal of variable
-- 5 as `5` where it is positive and as `-5` where it is negated.
use Rattle.std.specs.Prelude.{ℕ, ◌≡◌, ◌≤◌, ◌+◌, ◌==◌, Bool, false, not, ◌&&◌, if◌then◌else◌, List, [], ◌∷◌}
use Rattle.std.specs.List.{list_any, AllByRecursion}

pub record Literal : Type 0 where
  pub variable : ℕ
  pub positive : Bool

-- the same variable, asked to be the other way
abbrev pub negated : Literal → Literal
negated l = record { variable = l.variable; positive = not l.positive }

-- whether two literals are one
abbrev pub is_same : Literal → Literal → Bool
is_same a b = (a.variable == b.variable) && (if a.positive then b.positive else not b.positive)

-- whether the literal stands in the list
abbrev pub has : List Literal → Literal → Bool
has lits l = list_any (is_same l) lits

-- the variable is one from 1 to this number
abbrev pub IsKnown : ℕ → Literal → Type 0
IsKnown vars l = (1 ≤ l.variable) × (l.variable ≤ vars)

abbrev pub AreKnown : ℕ → List Literal → Type 0
AreKnown vars lits = AllByRecursion (IsKnown vars) lits

-- whether some literal of the list is one of this variable
abbrev pub names : List Literal → ℕ → Bool
names lits variable = list_any (λ l. l.variable == variable) lits

-- no variable stands at two places of the list, in one polarity or in both
abbrev pub AreDifferent : List Literal → Type 0
AreDifferent [] = Unit {0}
AreDifferent (l ∷ lits) = (names lits l.variable ≡ false) × AreDifferent lits

-- the number of places of the list whose literal passes a test
abbrev pub places : (Literal → Bool) → List Literal → ℕ
places test [] = 0
places test (l ∷ lits) = (if test l then 1 else 0) + places test lits
