-- Two numbers of a function, by which a count is told: the fewest literals that are true where it is true,
-- and the fewest that are false where it is false.
use Rattle.std.specs.Prelude.{ℕ, ◌≡◌, ◌+◌, ◌≤◌, ◌==◌, min, Bool, true, false, not, if◌then◌else◌, List, [], ◌∷◌, length, map, Option, Some, None}
use Rattle.std.specs.List.{AllByRecursion}
use Rattle.kn_logic.specs.Literals.{Literal, negated, places}
use Rattle.kn_logic.specs.Groups.{Gathered}
use Rattle.kn_diagram.specs.Diagrams.{Table, IsTable, IsNode, function_of, depth_of, is_true_by}
use Rattle.kn_quant.specs.Runs.{order_of}
use Rattle.kn_verdict.specs.declared.fewest.Fewest.{Fewest}

-- At values at which the function is this one, no fewer of the literals are true than this number, and at
-- some just as many, unless the number is above all of them.
pub record IsFewest (lits : List Literal) (f : (ℕ → Bool) → Bool) (want : Bool) (number : ℕ) : Type 0 where
  pub within : number ≤ length lits + 1
  pub bound : (v : ℕ → Bool) → f v ≡ want → number ≤ places (is_true_by v) lits
  pub met : number ≤ length lits → (v : ℕ → Bool) × (f v ≡ want) × (places (is_true_by v) lits ≡ number)

-- the literals, or their negations
abbrev pub asked : Bool → List Literal → List Literal
asked want lits = if want then lits else map negated lits

abbrev pub number_of : Bool → Fewest → ℕ
number_of want numbers = if want then numbers.holding else numbers.failing

-- both numbers of a function
pub record AreFewest (lits : List Literal) (f : (ℕ → Bool) → Bool) (numbers : Fewest) : Type 0 where
  pub holding : IsFewest lits f true numbers.holding
  pub failing : IsFewest (map negated lits) f false numbers.failing

-- how many a literal adds, where its variable has this value
abbrev pub adds : Literal → Bool → ℕ
adds l value = if (if l.positive then value else not value) then 1 else 0

abbrev pub constant_of : ℕ → Bool → Fewest
constant_of n true = record { holding = 0; failing = n + 1 }
constant_of n false = record { holding = n + 1; failing = 0 }

-- the numbers of "if the variable of this literal then the one function, else the other"
abbrev pub joined_by : Literal → Fewest → Fewest → Fewest
joined_by l high low = record {
  holding = min (adds l true + high.holding) (adds l false + low.holding);
  failing = min (adds (negated l) true + high.failing) (adds (negated l) false + low.failing);
}

-- the numbers that were noted for a node
abbrev pub found : List (ℕ × Fewest) → ℕ → Option Fewest
found [] node = None
found (e ∷ es) node = if node == e.0 then Some e.1 else found es node

-- A node of a group's diagrams whose variable is one of the border, or a constant.
pub record IsAtBorder (g : Gathered) (d : Table) (node : ℕ) : Type 0 where
  pub table : IsTable d
  pub order : d.order ≡ order_of g
  pub there : IsNode d node
  pub below : length g.aux ≤ depth_of d node

abbrev pub IsMeasured : Gathered → Table → ℕ → Fewest → Type 0
IsMeasured g d node numbers = AreFewest g.border (function_of d node) numbers

abbrev pub AreMeasured : Gathered → Table → List (ℕ × Fewest) → Type 0
AreMeasured g d entries = AllByRecursion (λ e. IsMeasured g d e.0 e.1) entries

-- the literal, or its negation
abbrev pub asked_literal : Bool → Literal → Literal
asked_literal want l = if want then l else negated l

-- At these values of the border's variables the function is the wanted one, and no fewer of the literals
-- that are asked for are true at any such values.
pub record IsWitness (g : Gathered) (f : (ℕ → Bool) → Bool) (want : Bool) (values : List Bool) : Type 0 where
  pub all : ℕ → Bool
  pub are : map (λ l. all l.variable) g.border ≡ values
  pub is_wanted : f all ≡ want
  pub fewest : (u : ℕ → Bool) → f u ≡ want → places (is_true_by all) (asked want g.border) ≤ places (is_true_by u) (asked want g.border)
