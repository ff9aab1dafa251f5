-- Values for the auxiliary variables of groups that were taken. In bucket elimination the values of the variables that
-- went come back from the last bucket to the first: whatever the other values are, a bucket's function tells whether
-- "true" will do for its variable.
use Rattle.std.specs.Prelude.{ℕ, ◌≡◌, ◌≤◌, ◌<◌, Bool, true, List, [], map, length, take, slice_index, Option, None, Some}
use Rattle.std.specs.List.{AllByRecursion}
use Rattle.kn_logic.specs.Assignments.{value_of}
use Rattle.kn_logic.specs.Formulas.{Satisfies}
use Rattle.kn_logic.specs.Groups.{Gathered}
use Rattle.kn_diagram.specs.Diagrams.{Table, IsNode, with_value}
use Rattle.kn_quant.specs.Eliminations.{Eliminated, buckets_of}
use Rattle.kn_quant.specs.declared.stage.Bucket.{Bucket}
use Rattle.kn_extract.specs.Extractions.{listed, AgreeOff}
use Rattle.kn_extract.specs.Kept.{Took, Extracted, found_of}
use Rattle.kn_quant.specs.Runs.{Function, Step, Runs, clause_function}

-- The variable of a bucket is true exactly where the bucket's function holds with this variable true and with the
-- values of all others.
abbrev pub IsByBucket : (ℕ → Bool) → ℕ × Function → Type 0
IsByBucket v b = v b.0 ≡ b.1 (with_value v b.0 true)

-- The rule of rebuilding, for a group: its auxiliary variables are eliminated by a run, of which there is no other, and
-- this holds of each of its buckets.
abbrev pub AreByRule : List Bool → Gathered → Type 0
AreByRule values g = (steps : List Step) × (buckets : List (ℕ × Function)) × (f : Function)
    × Runs g.aux (map clause_function g.taken) steps buckets f × AllByRecursion (IsByBucket (value_of values)) buckets

-- two assignments of values are the same at all variables, which count from 1
abbrev pub AreAlike : (ℕ → Bool) → (ℕ → Bool) → Type 0
AreAlike v w = (x : ℕ) → 1 ≤ x → w x ≡ v x

-- the buckets of an elimination, if there is one
abbrev pub buckets_in : Option Eliminated → List (ℕ × Function)
buckets_in None = []
buckets_in (Some e) = buckets_of e.table e.buckets

-- each variable of the order is one of an assignment of so many
abbrev pub IsOrderWithin : ℕ → Table → Type 0
IsOrderWithin vars d = (depth : ℕ) → depth < length d.order → (1 ≤ slice_index d.order depth) × (slice_index d.order depth ≤ vars)

-- a bucket of these diagrams, whose variable is one of an assignment of so many
abbrev pub IsBucketWithin : ℕ → Table → Bucket → Type 0
IsBucketWithin vars d b = IsNode d b.function × (1 ≤ b.var) × (b.var ≤ vars)

-- The clauses of the group are true, and its variables have their values by the rule.
abbrev pub IsDone : (ℕ → Bool) → Took → Type 0
IsDone v t = AllByRecursion (λ c. clause_function c v ≡ true) t.group.taken × AllByRecursion (IsByBucket v) (buckets_in t.elimination)

-- So many groups are done, what remains of the formula still holds, and only auxiliary variables have changed.
pub record IsPartly (e : Extracted) (old m : List Bool) (count : ℕ) : Type 0 where
  pub model : Satisfies m e.formula
  pub done : AllByRecursion (IsDone (value_of m)) (take count e.taken)
  pub changed : AgreeOff (listed (map found_of e.taken)) old m
