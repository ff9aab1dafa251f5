-- Constraints: "at least so many of these literals", perhaps under a guard. A clause asks for one
-- literal and has no guard; any other constraint is called a klause, after Reeves, Heule and Bryant
-- (CAV 2024), whose klauses have no guards.
use Rattle.std.specs.Prelude.{ℕ, ◌≡◌, ◌≤◌, ◌==◌, ◌⊎◌, ◌++◌, Bool, false, ◌&&◌, List, Option, Some, None, IfSome, option_to_list}
use Rattle.std.specs.Option.{is_none}
use Rattle.kn_logic.specs.Literals.{Literal, IsKnown, AreKnown, AreDifferent}
use Rattle.kn_logic.specs.Assignments.{is_true, true_places}

pub record Bounded : Type 0 where
  pub guard : Option Literal
  pub bound : ℕ
  pub lits : List Literal

-- at least one of the literals
abbrev pub clause : List Literal → Bounded
clause lits = record { guard = None; bound = 1; lits = lits }

-- at least `bound` of the literals
abbrev pub klause : ℕ → List Literal → Bounded
klause bound lits = record { guard = None; bound = bound; lits = lits }

-- if the guard, then at least `bound` of the literals
abbrev pub guarded_klause : Literal → ℕ → List Literal → Bounded
guarded_klause guard bound lits = record { guard = Some guard; bound = bound; lits = lits }

abbrev pub is_clause : Bounded → Bool
is_clause c = is_none c.guard && (c.bound == 1)

-- all literals that a constraint names, its guard first
abbrev pub named : Bounded → List Literal
named c = option_to_list c.guard ++ c.lits

-- there is a guard, and it is false
abbrev pub IsOff : List Bool → Option Literal → Type 0
IsOff values None = ⊥
IsOff values (Some guard) = is_true values guard ≡ false

-- A constraint holds where at least `bound` places of its list have a true literal, or where it has a
-- guard and the guard is false.
abbrev pub Holds : List Bool → Bounded → Type 0
Holds values c = (c.bound ≤ true_places values c.lits) ⊎ IsOff values c.guard

-- each variable is one from 1 to this number
pub record IsWithin (vars : ℕ) (c : Bounded) : Type 0 where
  pub guard : IfSome c.guard (IsKnown vars)
  pub lits : AreKnown vars c.lits

-- what a formula over so many variables may have: a klause names no variable twice, its guard counted
pub record Fits (vars : ℕ) (c : Bounded) : Type 0 where
  pub within : IsWithin vars c
  pub different : is_clause c ≡ false → AreDifferent (named c)
