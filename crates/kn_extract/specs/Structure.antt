-- How the groups of an extraction lie to one another, and to the formula that remains.
use Rattle.std.specs.Prelude.{ℕ, ◌≡◌, ◌≤◌, not, Bool, false, List, [], ◌∷◌, ◌++◌, map, filter, Some}
use Rattle.std.specs.List.{AllByRecursion, flat_map}
use Rattle.kn_logic.specs.Literals.{AreKnown}
use Rattle.kn_logic.specs.Constraints.{Bounded, named, Holds}
use Rattle.kn_logic.specs.Formulas.{Problem}
use Rattle.kn_logic.specs.Groups.{Gathered, is_among}
use Rattle.kn_store.specs.Stores.{constraints_of, constraint_at}
use Rattle.kn_extract.specs.Extractions.{Found, klause_of, numbered}

-- the ids of the clauses of all groups
abbrev pub ids_taken : List Found → List ℕ
ids_taken found = flat_map (λ x. x.ids) found

-- The formula that remains has the constraints that no group took, in their order, and behind them the klauses of the
-- groups in theirs.
pub record IsRemainder (f : Problem) (found : List Found) (last : Problem) : Type 0 where
  pub vars : last.vars ≡ f.vars
  pub constraints : last.constraints ≡ constraints_of (filter (λ p. not (is_among (ids_taken found) p.id)) (numbered 0 f.constraints)) ++ map klause_of found

-- The clauses of a group are those that the formula has under its ids.
abbrev pub IsOwned : Problem → Found → Type 0
IsOwned f x = map (constraint_at (numbered 0 f.constraints)) x.ids ≡ map (λ c. Some c) x.group.taken

-- each element with each later one
abbrev pub Pairwise : {X : Type 0} → (X → X → Type 0) → List X → Type 0
Pairwise R [] = Unit {0}
Pairwise R (x ∷ xs) = AllByRecursion (R x) xs × Pairwise R xs

-- the later group has no id of the earlier
abbrev pub TakesOthers : Found → Found → Type 0
TakesOthers x y = AllByRecursion (λ id. is_among x.ids id ≡ false) y.ids

-- no literal of the constraint is one of these variables, its guard counted
abbrev pub IsClear : List ℕ → Bounded → Type 0
IsClear variables c = AllByRecursion (λ l. is_among variables l.variable ≡ false) (named c)

-- none of these variables is one of the group: neither auxiliary nor of its border
pub record IsForeign (variables : List ℕ) (g : Gathered) : Type 0 where
  pub aux : AllByRecursion (λ v. is_among variables v ≡ false) g.aux
  pub border : AllByRecursion (λ l. is_among variables l.variable ≡ false) g.border

-- the auxiliary variables of each of two groups stand in it alone
abbrev pub StandApart : Found → Found → Type 0
StandApart x y = IsForeign x.group.aux y.group × IsForeign y.group.aux x.group

-- The variables of the group are from 1 to this number.
pub record IsOver (vars : ℕ) (g : Gathered) : Type 0 where
  pub aux : AllByRecursion (λ v. (1 ≤ v) × (v ≤ vars)) g.aux
  pub border : AreKnown vars g.border

-- all clauses of all groups hold
abbrev pub HoldTaken : List Bool → List Found → Type 0
HoldTaken values found = AllByRecursion (λ x. AllByRecursion (Holds values) x.group.taken) found
