-- A table that says for each variable which of its two literals stand in a list, so that a literal is
-- looked up in one step however long the list is.
use Rattle.std.specs.Prelude.{ℕ, ◌≡◌, ◌+◌, ◌-◌, ◌<◌, Bool, true, false, not, ◌||◌, if◌then◌else◌, List, ◌++◌, ◌∷◌, [], length, slice_index_or, slice_set}
use Rattle.kn_logic.specs.Literals.{Literal, negated, has, names, AreKnown}
use Rattle.kn_rules.specs.declared.assumed.Mark.{Mark}

-- literals that are taken to be true, over so many variables
pub record AssumedLiterals : Type 0 where
  pub vars : ℕ
  pub lits : List Literal

abbrev pub unmarked : Mark
unmarked = record { positive = false; negative = false }

-- which literals of a variable stand in the list
abbrev pub mark_of : List Literal → ℕ → Mark
mark_of lits variable = record {
  positive = has lits (record { variable = variable; positive = true });
  negative = has lits (record { variable = variable; positive = false });
}

-- The list is over the variables of the table, and the table says of each which of its literals stand
-- in the list. That of variable 1 stands first.
pub record IsMarked (marks : List Mark) (lits : List Literal) : Type 0 where
  pub known : AreKnown (length marks) lits
  pub exact : (k : ℕ) → k < length marks → slice_index_or marks k unmarked ≡ mark_of lits (k + 1)

-- No other literal of the list has the variable of the last one.
abbrev pub IsLastAlone : List Literal → Type 0
IsLastAlone lits = (front : List Literal) (l : Literal) → lits ≡ front ++ l ∷ [] → names front l.variable ≡ false

-- the entry of a literal's variable
abbrev pub entry_of : List Mark → Literal → Mark
entry_of marks l = slice_index_or marks (l.variable - 1) unmarked

-- whether a literal is marked
abbrev pub is_marked : List Mark → Literal → Bool
is_marked marks l = if l.positive then (entry_of marks l).positive else (entry_of marks l).negative

abbrev pub with_literal : Mark → Literal → Mark
with_literal mark l = record { positive = mark.positive || l.positive; negative = mark.negative || not l.positive }

-- the table with one literal marked
abbrev pub marked : List Mark → Literal → List Mark
marked marks l = slice_set marks (l.variable - 1) (with_literal (entry_of marks l) l)

-- whether a literal is not false: its negation is not marked
abbrev pub is_unopposed : List Mark → Literal → Bool
is_unopposed marks l = not (is_marked marks (negated l))
