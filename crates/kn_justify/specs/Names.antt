-- Nodes of a diagram that variables of a proof are defined as.
use Rattle.std.specs.Prelude.{◌⊎◌, ℕ, ◌≡◌, ◌≤◌, ◌+◌, ◌==◌, ◌++◌, true, if◌then◌else◌, List, [], ◌∷◌, Option, Some, None, option_map, slice_index, nat_eq}
use Rattle.std.specs.Map.{lookup}
use Rattle.kn_logic.specs.Literals.{Literal, IsKnown}
use Rattle.kn_logic.specs.Constraints.{clause}
use Rattle.kn_lines.specs.declared.line.Arm.{Arm}
use Rattle.kn_lines.specs.declared.line.Arm.TheVariants as arm
use Rattle.kn_rules.specs.declared.given.Given.{Given}
use Rattle.kn_rules.specs.States.{ProofState, live_at}
use Rattle.kn_rules.specs.Steps.{opposite}
use Rattle.kn_diagram.specs.declared.trace.Met.{Met}
use Rattle.kn_diagram.specs.Diagrams.{Table, IsNode, depth_of, high_of, low_of, high_at, low_at}
use Rattle.kn_diagram.specs.Widths.{reaches}
use Rattle.kn_justify.specs.declared.name.Name.{Name}
use Rattle.kn_justify.specs.Arms.{literals_of}
use Rattle.kn_justify.specs.Definitions.{IsDefined}

-- the name of a node, if it has one
abbrev pub name_of : List (ℕ × Name) → ℕ → Option Name
name_of names node = lookup (nat_eq node) names

-- the arm of a node: the constants for the constants, the literal of its variable for a node that has a name, and none
-- for any other
abbrev pub arm_of : List (ℕ × Name) → ℕ → Option Arm
arm_of names node =
    if node == 0 then Some arm.False
    else if node == 1 then Some arm.True
    else option_map (λ n. arm.Lit n.lit) (name_of names node)

abbrev pub arm_by : Option Name → Arm
arm_by None = arm.False
arm_by (Some n) = arm.Lit n.lit

-- the same, of a node that is a constant or has a name
abbrev pub arm_at : List (ℕ × Name) → ℕ → Arm
arm_at names node = if node == 0 then arm.False else if node == 1 then arm.True else arm_by (name_of names node)

abbrev pub positive_of : ℕ → Literal
positive_of variable = record { variable = variable; positive = true }

-- the variable at a depth, as a literal
abbrev pub test_at : Table → ℕ → Literal
test_at d depth = positive_of (slice_index d.order depth)

-- the variable of a node, as a literal
abbrev pub test_of : Table → ℕ → Literal
test_of d node = test_at d (depth_of d node)

-- A node's name is right in a proof: its variable is defined as "if the node's variable then the arm of its high node,
-- else that of its low node".
pub record IsRightName (s : ProofState) (d : Table) (names : List (ℕ × Name)) (node : ℕ) (n : Name) : Type 0 where
  pub test : IsKnown s.vars (test_of d node)
  pub defined : IsDefined s n (test_of d node) (arm_at names (high_of d node)) (arm_at names (low_of d node))

-- A node is a constant, or has a name.
abbrev pub IsNamed : List (ℕ × Name) → ℕ → Type 0
IsNamed names node = 2 ≤ node → (n : Name) × (name_of names node ≡ Some n)

-- A node is a constant, or has a right name.
abbrev pub HasName : ProofState → Table → List (ℕ × Name) → ℕ → Type 0
HasName s d names node = 2 ≤ node → (n : Name) × (name_of names node ≡ Some n) × IsRightName s d names node n

-- Each name that was there stays.
abbrev pub AreKept : List (ℕ × Name) → List (ℕ × Name) → Type 0
AreKept old new = (node : ℕ) (n : Name) → name_of old node ≡ Some n → name_of new node ≡ Some n

-- Each name that has come is that of a node that is reached from this one.
abbrev pub AreOfReached : Table → ℕ → List (ℕ × Name) → List (ℕ × Name) → Type 0
AreOfReached d f old new = (node : ℕ) (n : Name) → name_of new node ≡ Some n → (name_of old node ≡ Some n) ⊎ (reaches d f node ≡ true)

-- Each node that is reached from this one is a constant, or has a right name.
abbrev pub HasNames : ProofState → Table → List (ℕ × Name) → ℕ → Type 0
HasNames s d names f = (node : ℕ) → reaches d f node ≡ true → HasName s d names node

-- All names are right, and the two nodes of a named one are constants or have names.
pub record AreRight (s : ProofState) (d : Table) (names : List (ℕ × Name)) : Type 0 where
  pub right : (node : ℕ) (n : Name) → name_of names node ≡ Some n → IsRightName s d names node n
  pub high : (node : ℕ) (n : Name) → name_of names node ≡ Some n → IsNamed names (high_of d node)
  pub low : (node : ℕ) (n : Name) → name_of names node ≡ Some n → IsNamed names (low_of d node)

-- The variable of each node that is reached is known.
abbrev pub AreReachedKnown : ℕ → Table → ℕ → Type 0
AreReachedKnown vars d f = (node : ℕ) → reaches d f node ≡ true → 2 ≤ node → IsKnown vars (test_of d node)

-- What is known of a node: the clause of its arm alone is live under the id; "true" has no id.
abbrev pub IsUnit : List Given → List (ℕ × Name) → ℕ → Option ℕ → Type 0
IsUnit given names node None = node ≡ 1
IsUnit given names node (Some id) = (2 ≤ node) × (live_at given id ≡ Some (clause (literals_of (arm_at names node ∷ []))))

-- the arms of "not u, or not v, or w"
abbrev pub pair_arms : List (ℕ × Name) → Met → List Arm
pair_arms names m = opposite (arm_at names m.u) ∷ opposite (arm_at names m.v) ∷ arm_at names m.w ∷ []

-- the entry of the high nodes at a depth, and that of the low ones
abbrev pub high_met : Table → ℕ → Met → Met
high_met d depth m = record { u = high_at d depth m.u; v = high_at d depth m.v; w = high_at d depth m.w }

abbrev pub low_met : Table → ℕ → Met → Met
low_met d depth m = record { u = low_at d depth m.u; v = low_at d depth m.v; w = low_at d depth m.w }

-- the id of a clause of the node's definition, where the node is one of the variable at this depth
abbrev pub id_by : Option Name → ℕ → List ℕ
id_by None place = []
id_by (Some n) place = (n.id + place) ∷ []

abbrev pub hint_at : Table → List (ℕ × Name) → ℕ → ℕ → ℕ → List ℕ
hint_at d names depth place node = if depth_of d node == depth then id_by (name_of names node) place else []

-- the hints of one side of a pair: what each node has there, and what the lemma of the children's pair says
abbrev pub side_hints : Table → List (ℕ × Name) → ℕ → ℕ → ℕ → Met → List ℕ → List ℕ
side_hints d names depth down up m child =
    hint_at d names depth down m.u ++ (hint_at d names depth down m.v ++ (child ++ hint_at d names depth up m.w))

-- The three nodes of an entry are nodes of the diagram, and constants or with right names.
pub record IsNamedMet (s : ProofState) (d : Table) (names : List (ℕ × Name)) (m : Met) : Type 0 where
  pub u_there : IsNode d m.u
  pub v_there : IsNode d m.v
  pub w_there : IsNode d m.w
  pub u_named : HasName s d names m.u
  pub v_named : HasName s d names m.v
  pub w_named : HasName s d names m.w
