-- What the kinds keep of the places that they watch, and what they find out by counting.
use Rattle.std.specs.Prelude.{ℕ, ◌≡◌, ◌≢◌, ◌≤◌, ◌<◌, max, ◌==◌, ◌||◌, Bool, true, false, List, length, Option, Some, None, slice_index_or}
use Rattle.kn_logic.specs.Literals.{Literal}
use Rattle.kn_logic.specs.Constraints.{Bounded}
use Rattle.kn_logic.specs.Propagation.{is_open}
use Rattle.kn_watch.specs.declared.watched.Visit.{Visit}
use Rattle.kn_watch.specs.declared.watched.Visit.TheVariants.{Moved, Satisfied, Forces, Conflict}
use Rattle.kn_watch.specs.Trails.{value_in}
use Rattle.kn_watch.specs.Watches.{lit_at, is_unset, IsSatisfied, IsForcing, IsConflicting}

-- whether a place is one of two
abbrev pub either_place : ℕ → ℕ → ℕ → Bool
either_place first second place = (place == first) || (place == second)

-- two places, both within a list that has so many
abbrev pub ArePlaces : ℕ → ℕ → List Literal → Type 0
ArePlaces first second lits = (first ≢ second) × (first < max (length lits) 2) × (second < max (length lits) 2)

-- each literal but that at one place is false
abbrev pub OnlyOpen : List Literal → List Literal → ℕ → Type 0
OnlyOpen trail lits other = (place : ℕ) → place < length lits → place ≢ other → is_open trail (lit_at lits place) ≡ false

-- the value of a literal; false where there is none
abbrev pub value_of : List Literal → Option Literal → Option Bool
value_of trail None = Some false
value_of trail (Some l) = value_in trail l

-- what a visit finds where each literal of a clause but the last is false, and the last has this value
abbrev pub last_visit : Option Bool → Visit
last_visit (Some true) = Satisfied
last_visit (Some false) = Conflict
last_visit None = Forces

-- whether a place has a mark
abbrev pub marked_place : List Bool → ℕ → Bool
marked_place marks place = slice_index_or marks place false

-- a mark for each literal, and a place at which a scan can begin
abbrev pub AreMarks : List Literal → List Bool → ℕ → Type 0
AreMarks lits marks hand = (length marks ≡ length lits) × (hand ≤ length lits)

-- each literal whose place is not marked is false
abbrev pub AreFalseUnmarked : List Literal → List Literal → List Bool → Type 0
AreFalseUnmarked trail lits marks = (place : ℕ) → place < length lits → marked_place marks place ≡ false → is_open trail (lit_at lits place) ≡ false

-- whether there is a guard without a value
abbrev pub is_undecided : List Literal → Option Literal → Bool
is_undecided trail None = false
is_undecided trail (Some guard) = is_unset trail guard

-- what counting all its places finds a constraint to be
abbrev pub IsSurveyed : List Literal → Bounded → Visit → Type 0
IsSurveyed trail c (Moved to) = (to ≡ 0) × (IsSatisfied trail c → ⊥) × (IsForcing trail c → ⊥) × (IsConflicting trail c → ⊥)
IsSurveyed trail c Satisfied = IsSatisfied trail c
IsSurveyed trail c Forces = IsForcing trail c
IsSurveyed trail c Conflict = IsConflicting trail c
