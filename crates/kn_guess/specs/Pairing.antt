-- How a table of pairs is made, and how the partners of literals are met.
use Rattle.std.specs.Prelude.{ℕ, ◌≡◌, ◌≤◌, ◌<◌, ◌==◌, ◌&&◌, nat_eq, Bool, true, false, if◌then◌else◌, List, [], ◌∷◌, ◌++◌, length, map, filter, take, Option, Some, None, IfSome, slice_get, slice_set}
use Rattle.std.specs.List.{list_any, AllByRecursion}
use Rattle.std.specs.List.Sorted.{IsStrictlyIncreasing}
use Rattle.indexmap.specs.IndexSet.{insert_key}
use Rattle.kn_logic.specs.Literals.{Literal, is_same, has}
use Rattle.kn_logic.specs.Constraints.{Bounded}
use Rattle.kn_logic.specs.Groups.{Gathered, is_binary, is_covered}
use Rattle.kn_store.specs.Stores.{Numbered, Stored, constraints_of, ids_of, naming, chosen, constraint_at}
use Rattle.kn_guess.specs.Seen.{passes}
use Rattle.kn_guess.specs.Tables.{Paired, PairTable, rank, row, is_left}

-- the last entry is of the literal
abbrev pub ends : Literal → List Paired → Bool
ends l [] = false
ends l (p ∷ []) = is_same p.lit l
ends l (p ∷ q ∷ ps) = ends l (q ∷ ps)

-- an entry comes, unless the last one is of its literal
abbrev pub with_entry : Literal → ℕ → List Paired → List Paired
with_entry l id ps = if ends l ps then ps else ps ++ record { lit = l; id = id } ∷ []

-- the literal that stands with another in a list of two
abbrev pub other : Literal → List Literal → Option Literal
other l [] = None
other l (a ∷ []) = None
other l (a ∷ b ∷ []) = if is_same a l then Some b else if is_same b l then Some a else None
other l (a ∷ b ∷ c ∷ more) = None

abbrev pub other_of : Literal → Bounded → Option Literal
other_of l c = if is_binary c then other l c.lits else None

abbrev pub entered : Literal → ℕ → PairTable → Option Literal → PairTable
entered l id table None = table
entered l id table (Some m) = slice_set table (rank m) (with_entry l id (row table m))

abbrev pub found_entered : Literal → ℕ → PairTable → Option Bounded → PairTable
found_entered l id table None = table
found_entered l id table (Some c) = entered l id table (other_of l c)

-- the constraints of these ids are entered
abbrev pub all_entered : List Numbered → Literal → PairTable → List ℕ → PairTable
all_entered live l table [] = table
all_entered live l table (id ∷ ids) = all_entered live l (found_entered l id table (constraint_at live id)) ids

-- it stands among these too, and both clauses are left
abbrev pub is_common : List Numbered → List Paired → Paired → Bool
is_common live ys x = is_left live x && list_any (λ y. is_same y.lit x.lit && is_left live y) ys

-- all entries before a place are of literals before this one, and the entry there is not
pub record IsMet (ys : List Paired) (l : Literal) (at : ℕ) : Type 0 where
  pub before : AllByRecursion (λ y. rank y.lit < rank l) (take at ys)
  pub here : IfSome (slice_get ys at) (λ y. rank l ≤ rank y.lit)

-- the clauses of all pairs are left
abbrev pub AreLeft : List Numbered → List Paired → Type 0
AreLeft live ps = AllByRecursion (λ p. is_left live p ≡ true) ps

-- the variables of the positive literals join a set
abbrev pub positives : List ℕ → List Literal → List ℕ
positives set [] = set
positives set (l ∷ ls) = positives (if l.positive then insert_key nat_eq set l.variable else set) ls

-- those of these ids whose clause is one of two literals of the border
abbrev pub covered_among : List Numbered → List Literal → List ℕ → List ℕ
covered_among live border ids = filter (λ id. passes (is_covered border) (constraint_at live id)) ids

-- found with one variable after another, but for one that is skipped
abbrev pub covered_ids : List Numbered → List Literal → ℕ → List Literal → List ℕ
covered_ids live border skipped [] = []
covered_ids live border skipped (l ∷ ls) = (if l.variable == skipped then [] else covered_among live border (ids_of (naming l.variable live))) ++ covered_ids live border skipped ls

-- the guess of a group of literals: they ascend, and all binary clauses of two of them are taken
pub record IsCoverOf (s : Stored) (group : List Literal) (g : Gathered) (ids : List ℕ) : Type 0 where
  pub aux : g.aux ≡ []
  pub ascends : IsStrictlyIncreasing (map (λ l. l.variable) g.border)
  pub members : (l : Literal) → has g.border l ≡ has group l
  pub long : length group ≤ length g.border
  pub taken : g.taken ≡ constraints_of (chosen (is_covered g.border) s.live)
  pub ids_are : ids ≡ ids_of (chosen (is_covered g.border) s.live)
