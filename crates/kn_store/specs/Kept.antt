-- How a store keeps its constraints: in a list of slots by id, with a list of ids for each variable.
use Rattle.std.specs.Prelude.{ℕ, ◌≡◌, ◌≤◌, ◌+◌, ◌-◌, ◌==◌, not, if◌then◌else◌, List, [], ◌∷◌, ◌++◌, length, filter, Option, Some, None, slice_index_or, slice_set}
use Rattle.std.specs.List.{AllByRecursion}
use Rattle.kn_logic.specs.Literals.{Literal}
use Rattle.kn_logic.specs.Constraints.{Bounded, Fits}
use Rattle.kn_logic.specs.Groups.{is_among}
use Rattle.kn_store.specs.Stores.{Numbered, constraints_of, ids_of, naming}

-- the constraints of the slots that are not empty, numbered from the one after `last`
abbrev pub pairs_of : ℕ → List (Option Bounded) → List Numbered
pairs_of last [] = []
pairs_of last (None ∷ slots) = pairs_of (last + 1) slots
pairs_of last (Some c ∷ slots) = record { id = last + 1; constraint = c } ∷ pairs_of (last + 1) slots

-- The list of each variable has the ids of the constraints that name it.
pub record IsKept (vars live : ℕ) (slots : List (Option Bounded)) (lists : List (List ℕ)) : Type 0 where
  pub long : length lists ≡ vars
  pub count : live ≡ length (pairs_of 0 slots)
  pub fits : AllByRecursion (Fits vars) (constraints_of (pairs_of 0 slots))
  pub listed : (x : ℕ) → 1 ≤ x → slice_index_or lists (x - 1) [] ≡ ids_of (naming x (pairs_of 0 slots))

abbrev pub with_id : ℕ → List ℕ → List ℕ
with_id id ids = if is_among ids id then ids else ids ++ id ∷ []

abbrev pub without_id : ℕ → List ℕ → List ℕ
without_id id ids = filter (λ i. not (i == id)) ids

-- the lists of the variables of these literals are changed
abbrev pub changed : (List ℕ → List ℕ) → List (List ℕ) → List Literal → List (List ℕ)
changed change lists [] = lists
changed change lists (l ∷ lits) = changed change (slice_set lists (l.variable - 1) (change (slice_index_or lists (l.variable - 1) []))) lits
