-- What is kept of a store, so that many groups are guessed from it while others are taken out of it.
use Rattle.std.specs.Prelude.{ℕ, ◌≡◌, ◌≤◌, ◌<◌, ◌+◌, ◌-◌, ◌*◌, ◌==◌, ◌&&◌, not, Bool, true, false, if◌then◌else◌, List, [], ◌∷◌, ◌++◌, length, map, filter, IfSome, slice_index_or}
use Rattle.std.specs.Option.{is_some}
use Rattle.std.specs.List.{list_any, AllByRecursion}
use Rattle.std.specs.List.Sorted.{IsStrictlyIncreasing}
use Rattle.kn_logic.specs.Literals.{Literal, names, IsKnown}
use Rattle.kn_logic.specs.Constraints.{Bounded, named}
use Rattle.kn_logic.specs.Groups.{is_pair_of, has_pair}
use Rattle.kn_store.specs.Stores.{Numbered, Stored, constraints_of, constraint_at}
use Rattle.kn_guess.specs.Guesses.{in_klause, share, is_seed, IsLeastFrom, candidates}
use Rattle.kn_guess.specs.Refusals.{IsTooMany}
use Rattle.kn_guess.specs.Seen.{IsSeen}
use Rattle.kn_guess.specs.Walks.{kept, is_near}

-- the constraints that pass a test are taken out, and one comes in their place
abbrev pub replaced : Stored → (Bounded → Bool) → Bounded → Stored
replaced s test c = record { vars = s.vars; added = s.added + 1; live = filter (λ p. not (test p.constraint)) s.live ++ record { id = s.added + 1; constraint = c } ∷ [] }

-- some constraint names the variable
abbrev pub in_some : List Bounded → ℕ → Bool
in_some cs x = list_any (λ c. names (named c) x) cs

-- For each variable, that of variable 1 first: whether it stands in no klause, whether it passes the test of a
-- seed, whether its least set is known to have too many variables, and ids of constraints that name it; for each
-- id, that of id 0 first, variables that its constraint names. No seed below `from` is asked any more.
pub record SeedTable : Type 0 where
  pub from : ℕ
  pub free : List Bool
  pub seeds : List Bool
  pub deep : List Bool
  pub entries : List (List ℕ)
  pub members : List (List ℕ)

-- The ids and the variables that are kept are those of the store, so far as they are asked for.
pub record IsNear (s : Stored) (from : ℕ) (entries members : List (List ℕ)) : Type 0 where
  pub long : length entries ≡ s.vars
  pub placed : (x : ℕ) → 1 ≤ x → AllByRecursion (λ k. k < length members) (kept entries (x - 1))
  pub sound : (x z : ℕ) → 1 ≤ x → in_klause (constraints_of s.live) x ≡ false → in_some (constraints_of s.live) x ≡ true → is_near members (kept entries (x - 1)) z ≡ true → share (constraints_of s.live) x z ≡ true
  pub complete : (x z : ℕ) → 1 ≤ x → in_klause (constraints_of s.live) x ≡ false → from < z → in_klause (constraints_of s.live) z ≡ false → share (constraints_of s.live) x z ≡ true → is_near members (kept entries (x - 1)) z ≡ true

-- the least sets of the variables whose flags are up have too many
abbrev pub AreDeep : List Bounded → List Bool → Type 0
AreDeep cs flags = (x : ℕ) → 1 ≤ x → slice_index_or flags (x - 1) false ≡ true → IsTooMany cs x

-- the least set of a seed, where it has at most 256 variables
pub record IsLeastSet (s : Stored) (seed : ℕ) (set : List ℕ) : Type 0 where
  pub least : IsLeastFrom (constraints_of s.live) seed set
  pub known : AllByRecursion (λ x. (1 ≤ x) × (x ≤ s.vars)) set
  pub alone : AllByRecursion (λ x. in_klause (constraints_of s.live) x ≡ false) set
  pub few : length set ≤ 256

-- A table that tells the seeds of a store and their neighbours.
pub record IsSeedTable (s : Stored) (t : SeedTable) : Type 0 where
  pub seen : IsSeen s t.free
  pub long : length t.seeds ≡ s.vars
  pub tested : (x : ℕ) → 1 ≤ x → x ≤ s.vars → slice_index_or t.seeds (x - 1) false ≡ is_seed (constraints_of s.live) x
  pub deep : AreDeep (constraints_of s.live) t.deep
  pub near : IsNear s t.from t.entries t.members

-- a literal that stands with another in a binary clause, and the id of one such clause
pub record Paired : Type 0 where
  pub lit : Literal
  pub id : ℕ

-- for each literal, in the place of its rank, those that it is paired with
abbrev pub PairTable : Type 0
PairTable = List (List Paired)

-- the order of literals: variables ascending, the positive one first
abbrev pub rank : Literal → ℕ
rank l = 2 * l.variable + (if l.positive then 0 else 1)

abbrev pub row : PairTable → Literal → List Paired
row table m = slice_index_or table (rank m) []

abbrev pub lits_of : List Paired → List Literal
lits_of ps = map (λ p. p.lit) ps

abbrev pub ranks : List Paired → List ℕ
ranks ps = map (λ p. rank p.lit) ps

-- some binary clause has both literals, which are of two variables
abbrev pub is_partner : List Bounded → Literal → Literal → Bool
is_partner cs m l = not (l.variable == m.variable) && has_pair cs l m

-- the clause of the pair is still there
abbrev pub is_left : List Numbered → Paired → Bool
is_left live p = is_some (constraint_at live p.id)

-- an entry in the row of a literal
pub record IsPaired (s : Stored) (m : Literal) (p : Paired) : Type 0 where
  pub old : p.id ≤ s.added
  pub other : (p.lit.variable == m.variable) ≡ false
  pub pair : IfSome (constraint_at s.live p.id) (λ c. is_pair_of p.lit m c ≡ true)

-- A table that tells the pairs of a store: each row has the partners of its literal that are left, in order.
pub record IsPairTable (s : Stored) (table : PairTable) : Type 0 where
  pub long : length table ≡ 2 * s.vars + 2
  pub entries : (m : Literal) → IsKnown s.vars m → AllByRecursion (IsPaired s m) (row table m)
  pub ascend : (m : Literal) → IsKnown s.vars m → IsStrictlyIncreasing (ranks (row table m))
  pub partners : (m : Literal) → IsKnown s.vars m → lits_of (filter (is_left s.live) (row table m)) ≡ filter (is_partner (constraints_of s.live) m) (candidates s.vars)
