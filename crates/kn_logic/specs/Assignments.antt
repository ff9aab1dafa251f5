-- An assignment of V variables is a list of V truth values; that of variable 1 stands first. Variables
-- count from 1, as in DIMACS files, whose `v` lines write the same values as literals.
use Rattle.std.specs.Prelude.{ℕ, ◌-◌, Bool, false, not, if◌then◌else◌, List, slice_index_or}
use Rattle.kn_logic.specs.Literals.{Literal, places}

-- the value of a variable from 1 to V
abbrev pub value_of : List Bool → ℕ → Bool
value_of values variable = slice_index_or values (variable - 1) false

-- A literal is true where its variable has the value that it asks for.
abbrev pub is_true : List Bool → Literal → Bool
is_true values l = if l.positive then value_of values l.variable else not (value_of values l.variable)

-- The number of places of a list whose literal is true. Places are counted, and not literals, so
-- that a list in which a literal stands twice has a meaning.
abbrev pub true_places : List Bool → List Literal → ℕ
true_places values lits = places (is_true values) lits
