-- What is read of a store.
use Rattle.std.specs.Prelude.{ℕ, ◌≡◌, ◌≤◌, ◌-◌, not, Bool, false, ◌||◌, List, [], ◌∷◌, length, Option, Some, None, slice_index_or, option_to_list}
use Rattle.std.specs.List.{flat_map}
use Rattle.kn_logic.specs.Constraints.{Bounded}
use Rattle.kn_store.specs.Stores.{Numbered, Stored, constraints_of, ids_of, naming, constraint_at}
use Rattle.kn_guess.specs.Guesses.{in_klause}

-- a table of the variables that stand in no klause
pub record IsSeen (s : Stored) (free : List Bool) : Type 0 where
  pub long : length free ≡ s.vars
  pub says : (x : ℕ) → 1 ≤ x → x ≤ s.vars → slice_index_or free (x - 1) false ≡ not (in_klause (constraints_of s.live) x)

abbrev pub passes : (Bounded → Bool) → Option Bounded → Bool
passes test None = false
passes test (Some c) = test c

-- some constraint with one of these ids passes
abbrev pub any_passes : (Bounded → Bool) → List Numbered → List ℕ → Bool
any_passes test live [] = false
any_passes test live (id ∷ ids) = passes test (constraint_at live id) || any_passes test live ids

-- the constraints of these ids
abbrev pub found : List Numbered → List ℕ → List Bounded
found live ids = flat_map (λ id. option_to_list (constraint_at live id)) ids

-- the ids of the constraints that name one variable after another
abbrev pub ids_with : List Numbered → List ℕ → List ℕ
ids_with live set = flat_map (λ x. ids_of (naming x live)) set
