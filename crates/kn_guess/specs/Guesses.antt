-- The groups that are guessed: of a variable, by the constraints that its neighbours stand in; of a clause of
-- two literals, by the clauses of two literals that join it. The idea is of Reeves, Heule and Bryant (CAV
-- 2024), the rules are this project's.
use Rattle.std.specs.Prelude.{ℕ, ◌≡◌, ◌≤◌, ◌<◌, ◌&&◌, not, nat_lt, Bool, true, false, if◌then◌else◌, List, [], ◌∷◌, ◌++◌, length, map, Some}
use Rattle.std.specs.List.{list_any, list_all, range_with_len, flat_map}
use Rattle.std.specs.List.Sorted.{IsStrictlyIncreasing}
use Rattle.kn_logic.specs.Literals.{Literal, has, names}
use Rattle.kn_logic.specs.Constraints.{Bounded, is_clause, named}
use Rattle.kn_logic.specs.Groups.{Gathered, is_among, is_binary, has_pair, is_covered}
use Rattle.kn_store.specs.Stores.{Stored, constraints_of, ids_of, constraint_at, chosen}

-- a group, and the ids of its clauses
pub record Guessed : Type 0 where
  pub group : Gathered
  pub ids : List ℕ

-- some klause names the variable, its guard counted
abbrev pub in_klause : List Bounded → ℕ → Bool
in_klause cs x = list_any (λ c. not (is_clause c) && names (named c) x) cs

-- some binary clause names it
abbrev pub in_binary : List Bounded → ℕ → Bool
in_binary cs x = list_any (λ c. is_binary c && names c.lits x) cs

-- some constraint names both variables
abbrev pub share : List Bounded → ℕ → ℕ → Bool
share cs x y = list_any (λ c. names (named c) x && names (named c) y) cs

-- the literal stands in some constraint
abbrev pub stands : List Bounded → Literal → Bool
stands cs l = list_any (λ c. has (named c) l) cs

-- A seed stands in both polarities, in a binary clause, and in no klause.
abbrev pub is_seed : List Bounded → ℕ → Bool
is_seed cs y =
    not (in_klause cs y) && (in_binary cs y && (stands cs (record { variable = y; positive = true }) && stands cs (record { variable = y; positive = false })))

-- With each of its variables the list has each later one than the seed that stands in no klause and in a
-- constraint with it.
pub record IsClosedFrom (cs : List Bounded) (seed : ℕ) (set : List ℕ) : Type 0 where
  pub seed_in : is_among set seed ≡ true
  pub neighbours : (x z : ℕ) → is_among set x ≡ true → seed < z → in_klause cs z ≡ false → share cs x z ≡ true → is_among set z ≡ true

-- the least such list
abbrev pub IsLeastFrom : List Bounded → ℕ → List ℕ → Type 0
IsLeastFrom cs seed set = IsClosedFrom cs seed set × ((other : List ℕ) → IsClosedFrom cs seed other → (x : ℕ) → is_among set x ≡ true → is_among other x ≡ true)

-- the constraint names one of the variables
abbrev pub touches : List ℕ → Bounded → Bool
touches set c = list_any (λ l. is_among set l.variable) (named c)

-- The border: the literal stands in some of the constraints that are taken, and is of none of the variables.
abbrev pub is_border : List Bounded → List ℕ → Literal → Bool
is_border taken set l = stands taken l && not (is_among set l.variable)

-- these literals, ascending by variable; so none stands there in both polarities
abbrev pub IsBorder : List Bounded → List ℕ → List Literal → Type 0
IsBorder taken set border = IsStrictlyIncreasing (map (λ l. l.variable) border) × ((l : Literal) → has border l ≡ is_border taken set l)

-- The guess of a seed: the least set, all constraints that name one of its variables, and their border.
pub record IsSeedGuess (s : Stored) (seed : ℕ) (g : Gathered) (ids : List ℕ) : Type 0 where
  pub starts : is_seed (constraints_of s.live) seed ≡ true
  pub ascends : IsStrictlyIncreasing g.aux
  pub least : IsLeastFrom (constraints_of s.live) seed g.aux
  pub few : length g.aux ≤ 256
  pub taken : g.taken ≡ constraints_of (chosen (touches g.aux) s.live)
  pub ids_are : ids ≡ ids_of (chosen (touches g.aux) s.live)
  pub border : IsBorder g.taken g.aux g.border
  pub low : 3 ≤ length g.border
  pub high : length g.border ≤ 128

-- whether a literal joins a group of literals: its variable is new to it, it is not full, and with each of
-- its literals there is a binary clause
abbrev pub joins : List Bounded → List Literal → Literal → Bool
joins cs group l = not (names group l.variable) && (nat_lt (length group) 256 && list_all (has_pair cs l) group)

-- the group after one literal after another was tried
abbrev pub joined : List Bounded → List Literal → List Literal → List Literal
joined cs group [] = group
joined cs group (l ∷ ls) = joined cs (if joins cs group l then group ++ l ∷ [] else group) ls

-- each literal, the variables ascending, the positive one first
abbrev pub candidates : ℕ → List Literal
candidates vars = flat_map (λ v. record { variable = v; positive = true } ∷ record { variable = v; positive = false } ∷ []) (range_with_len 1 vars)

-- the literals that join a clause of two
abbrev pub pair_group : Stored → Bounded → List Literal
pair_group s first = joined (constraints_of s.live) first.lits (candidates s.vars)

-- The guess of a start: the literals that join it, and all binary clauses of two of them.
pub record IsPairGuess (s : Stored) (start : ℕ) (g : Gathered) (ids : List ℕ) : Type 0 where
  pub first : Bounded
  pub there : constraint_at s.live start ≡ Some first
  pub binary : is_binary first ≡ true
  pub aux : g.aux ≡ []
  pub ascends : IsStrictlyIncreasing (map (λ l. l.variable) g.border)
  pub members : (l : Literal) → has g.border l ≡ has (pair_group s first) l
  pub three : 3 ≤ length g.border
  pub taken : g.taken ≡ constraints_of (chosen (is_covered g.border) s.live)
  pub ids_are : ids ≡ ids_of (chosen (is_covered g.border) s.live)

-- No group starts there: the id is that of no binary clause, or fewer than three literals come together.
abbrev pub IsNoPairGuess : Stored → ℕ → Type 0
IsNoPairGuess s start = (first : Bounded) → constraint_at s.live start ≡ Some first → is_binary first ≡ true → length (pair_group s first) < 3
