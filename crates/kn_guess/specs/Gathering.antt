-- How a set is gathered from the literals of constraints, up to one more than a limit.
use Rattle.std.specs.Prelude.{ℕ, nat_lt, nat_eq, not, ◌&&◌, Bool, if◌then◌else◌, List, [], ◌∷◌, length, Option, Some, None}
use Rattle.indexmap.specs.IndexSet.{insert_key}
use Rattle.kn_logic.specs.Literals.{Literal}
use Rattle.kn_logic.specs.Constraints.{Bounded}
use Rattle.kn_logic.specs.Groups.{is_among}
use Rattle.kn_store.specs.Stores.{Numbered, ids_of, naming, constraint_at}

-- a number joins, where the set is not over its limit
abbrev pub with_number : ℕ → List ℕ → Option ℕ → List ℕ
with_number limit set None = set
with_number limit set (Some v) = if nat_lt limit (length set) then set else insert_key nat_eq set v

abbrev pub with_lits : ℕ → (Literal → Option ℕ) → List ℕ → List Literal → List ℕ
with_lits limit key set [] = set
with_lits limit key set (l ∷ ls) = with_lits limit key (with_number limit set (key l)) ls

abbrev pub with_found : ℕ → (Literal → Option ℕ) → List ℕ → Option Bounded → List ℕ
with_found limit key set None = set
with_found limit key set (Some c) = with_lits limit key set c.lits

abbrev pub with_ids : ℕ → (Literal → Option ℕ) → List Numbered → List ℕ → List ℕ → List ℕ
with_ids limit key live set [] = set
with_ids limit key live set (id ∷ ids) = with_ids limit key live (with_found limit key set (constraint_at live id)) ids

-- from the constraints that name one variable after another
abbrev pub with_members : ℕ → (Literal → Option ℕ) → List Numbered → List ℕ → List ℕ → List ℕ
with_members limit key live set [] = set
with_members limit key live set (x ∷ xs) = with_members limit key live (with_ids limit key live set (ids_of (naming x live))) xs

-- a variable outside a set, in one polarity
abbrev pub outside_key : List ℕ → Bool → Literal → Option ℕ
outside_key set positive l = if (if l.positive then positive else not positive) && not (is_among set l.variable) then Some l.variable else None
