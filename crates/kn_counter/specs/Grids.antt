-- The grid of a count over literals l1 to ln: node (i, j) says that at least j of li to ln are true. A
-- node that is neither always true nor always false says "if li then (i + 1, j - 1) else (i + 1, j)", as
-- in the decision diagram of a cardinality constraint (Eén and Sörensson, JSAT 2006).
use Rattle.std.specs.Prelude.{ℕ, ◌≡◌, ◌≤◌, ◌+◌, ◌-◌, ◌==◌, nat_lt, ◌↔◌, Bool, true, false, if◌then◌else◌, List, drop, slice_get, Some}
use Rattle.kn_logic.specs.Literals.{Literal}
use Rattle.kn_logic.specs.Assignments.{is_true, true_places}
use Rattle.kn_counter.specs.declared.grid.Cell.{Cell}
use Rattle.kn_counter.specs.declared.grid.Cell.TheVariants.{True, False, Inner}

-- what node (i, j) says; literals count from 1
abbrev pub Says : List Bool → List Literal → ℕ → ℕ → Type 0
Says values lits i j = j ≤ true_places values (drop (i - 1) lits)

-- the kind of node (i, j) over n literals
abbrev pub cell_of : ℕ → ℕ → ℕ → Cell
cell_of n i j = if j == 0 then True else if nat_lt (n + 1 - i) j then False else Inner

-- A node that is no constant goes on to two nodes of the next literal.
abbrev pub Splits : List Bool → List Literal → ℕ → ℕ → Bool → Type 0
Splits values lits i j true = Says values lits i j ↔ Says values lits (i + 1) (j - 1)
Splits values lits i j false = Says values lits i j ↔ Says values lits (i + 1) j

-- what the kind of a node claims of it
abbrev pub IsKind : List Bool → List Literal → ℕ → ℕ → Cell → Type 0
IsKind values lits i j True = Says values lits i j
IsKind values lits i j False = Says values lits i j → ⊥
IsKind values lits i j Inner = (l : Literal) → slice_get lits (i - 1) ≡ Some l → Splits values lits i j (is_true values l)
