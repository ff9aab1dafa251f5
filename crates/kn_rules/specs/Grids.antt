-- Which variables stand for the nodes of a count's grid. Node (i, j) over l1 to ln says that at least j of li
-- to ln are true; it is told here by the literals from the i-th on, and j.
use Rattle.std.specs.Prelude.{ℕ, ◌-◌, Bool, true, false, ◌&&◌, ◌||◌, if◌then◌else◌, List, [], ◌∷◌, length, Option, Some, None}
use Rattle.std.specs.Option.{option_map_or}
use Rattle.kn_logic.specs.Literals.{Literal, negated, is_same}
use Rattle.kn_lines.specs.declared.line.Arm.{Arm}
use Rattle.kn_lines.specs.declared.line.Arm.TheVariants as arm
use Rattle.kn_rules.specs.declared.definition.Definition.{Definition}
use Rattle.kn_counter.specs.Grids.{cell_of}
use Rattle.kn_counter.specs.declared.grid.Cell.{Cell}
use Rattle.kn_counter.specs.declared.grid.Cell.TheVariants as cell

abbrev pub is_true_arm : Arm → Bool
is_true_arm arm.True = true
is_true_arm other = false

abbrev pub is_false_arm : Arm → Bool
is_false_arm arm.False = true
is_false_arm other = false

-- the variable of an arm that is a positive literal
abbrev pub variable_of : Arm → Option ℕ
variable_of (arm.Lit l) = if l.positive then Some l.variable else None
variable_of other = None

-- Whether a definition goes on as the node of a literal does, which it may test in either polarity: with one
-- less to come where the literal is true.
abbrev pub splits : (ℕ → Arm → Bool) → Literal → ℕ → Definition → Bool
splits stands l j d =
    (is_same d.test l && (stands (j - 1) d.high && stands j d.low))
    || (is_same d.test (negated l) && (stands j d.high && stands (j - 1) d.low))

-- Whether an arm stands for a node of this kind: the constants alone for a node that is one, and for any other
-- a variable whose definition goes on as the node does.
abbrev pub stands_as : Cell → (Definition → Bool) → Option Definition → Arm → Bool
stands_as cell.True goes_on defined a = is_true_arm a
stands_as cell.False goes_on defined a = is_false_arm a
stands_as cell.Inner goes_on defined a = option_map_or goes_on defined false

-- the definition that an arm leads to
abbrev pub led_to : (ℕ → Option Definition) → Option ℕ → Option Definition
led_to definition None = None
led_to definition (Some variable) = definition variable

-- whether an arm stands for the node "at least j of these literals"
abbrev pub stands_for : (ℕ → Option Definition) → List Literal → ℕ → Arm → Bool
stands_for definition [] j a = stands_as (cell_of 0 1 j) (λ d. false) (led_to definition (variable_of a)) a
stands_for definition (l ∷ lits) j a =
    stands_as (cell_of (length (l ∷ lits)) 1 j) (splits (stands_for definition lits) l j) (led_to definition (variable_of a)) a

-- whether a variable stands for the root of the grid of a klause
abbrev pub is_root : (ℕ → Option Definition) → List Literal → ℕ → ℕ → Bool
is_root definition lits bound root = stands_for definition lits bound (arm.Lit (record { variable = root; positive = true }))
