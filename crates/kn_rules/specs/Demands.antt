-- The nodes of a level of a grid that variables have to stand for: each demand is a variable and the count of
-- its node, over the literals from the level on. No variable has two counts at one level, since none stands for
-- two nodes of it.
use Rattle.std.specs.Prelude.{ℕ, ◌≡◌, ◌==◌, ◌++◌, ◌∷◌, Bool, true, false, if◌then◌else◌, List, [], Option, Some, None}
use Rattle.std.specs.List.{list_all}
use Rattle.std.specs.Option.{is_none}
use Rattle.std.specs.Ordering.{nat_cmp}
use Rattle.std.specs.BTreeMap.{BTreeMap, get}
use Rattle.kn_logic.specs.Literals.{Literal}
use Rattle.kn_lines.specs.declared.line.Arm.{Arm}
use Rattle.kn_lines.specs.declared.line.Arm.TheVariants as arm
use Rattle.kn_rules.specs.declared.definition.Definition.{Definition}
use Rattle.kn_rules.specs.Grids.{stands_for}

abbrev pub arm_of : ℕ → Arm
arm_of variable = arm.Lit (record { variable = variable; positive = true })

-- the count that is demanded of a variable; none where the variable has none
abbrev pub count_of : List (ℕ × ℕ) → ℕ → Option ℕ
count_of [] variable = None
count_of (d ∷ demands) variable = if d.0 == variable then Some d.1 else count_of demands variable

-- whether a count is the one that a variable has, if it has one
abbrev pub agrees : Option ℕ → ℕ → Bool
agrees None count = true
agrees (Some before) count = before == count

-- the demands with one more, unless its variable has one
abbrev pub with_demand : List (ℕ × ℕ) → ℕ → ℕ → List (ℕ × ℕ)
with_demand demands variable count = if is_none (count_of demands variable) then demands ++ (variable, count) ∷ [] else demands

-- The map has the count of each variable.
abbrev pub IsIndexed : List (ℕ × ℕ) → BTreeMap ℕ ℕ → Type 0
IsIndexed demands counts = (variable : ℕ) → get nat_cmp counts variable ≡ count_of demands variable

-- whether each variable stands for its node
abbrev pub all_stand : (ℕ → Option Definition) → List Literal → List (ℕ × ℕ) → Bool
all_stand definition lits demands = list_all (λ d. stands_for definition lits d.1 (arm_of d.0)) demands

-- the same of demands that are there only where no other one has failed
abbrev pub all_go_on : (ℕ → Option Definition) → List Literal → Option (List (ℕ × ℕ)) → Bool
all_go_on definition lits None = false
all_go_on definition lits (Some demands) = all_stand definition lits demands
