-- What a trail makes of a constraint, and what watched places tell of it.
use Rattle.std.specs.Prelude.{ℕ, zero, suc, ◌≡◌, ◌≢◌, ◌≤◌, ◌<◌, ◌+◌, min, ◌⊎◌, ◌++◌, ◌∷◌, Bool, true, false, not, ◌&&◌, if◌then◌else◌, List, [], length, Option, Some, None, slice_index_or}
use Rattle.kn_logic.specs.Literals.{Literal, negated, has, places}
use Rattle.kn_logic.specs.Constraints.{Bounded}
use Rattle.kn_logic.specs.Propagation.{is_open, open_places, IsShort}
use Rattle.kn_watch.specs.declared.trail.Made.{Made}
use Rattle.kn_watch.specs.Trails.{literals, below}
use Rattle.kn_watch.specs.declared.watched.Visit.{Visit}
use Rattle.kn_watch.specs.declared.watched.Visit.TheVariants.{Moved, Satisfied, Forces, Conflict}
use Rattle.kn_watch.specs.declared.watched.Look.{Look}
use Rattle.kn_watch.specs.declared.watched.Look.TheVariants as looked

-- the negation of the guard, where there is one
abbrev pub unguarded : Option Literal → List Literal
unguarded None = []
unguarded (Some guard) = negated guard ∷ []

-- the literals that can be watched: those of the constraint and, last, the negation of its guard
abbrev pub listed : Bounded → List Literal
listed c = c.lits ++ unguarded c.guard

-- the literal at a place
abbrev pub lit_at : List Literal → ℕ → Literal
lit_at lits place = slice_index_or lits place (record { variable = 0; positive = true })

abbrev pub true_in : List Literal → List Literal → ℕ
true_in trail lits = places (has trail) lits

-- there is a guard, and it is false
abbrev pub IsReleased : List Literal → Option Literal → Type 0
IsReleased trail None = ⊥
IsReleased trail (Some guard) = is_open trail guard ≡ false

-- there is no guard, or it is true
abbrev pub IsBinding : List Literal → Option Literal → Type 0
IsBinding trail None = Unit {0}
IsBinding trail (Some guard) = has trail guard ≡ true

-- At least so many literals as the bound are true, or the guard is false.
abbrev pub IsSatisfied : List Literal → Bounded → Type 0
IsSatisfied trail c = (c.bound ≤ true_in trail c.lits) ⊎ IsReleased trail c.guard

-- Fewer literals than the bound are not false, and no guard forbids that.
abbrev pub IsConflicting : List Literal → Bounded → Type 0
IsConflicting trail c = (open_places trail c.lits < c.bound) × IsBinding trail c.guard

-- a literal without a value
abbrev pub is_unset : List Literal → Literal → Bool
is_unset trail l = is_open trail l && not (has trail l)

-- The literal at this place has to become true: just as many literals as the bound are not false, and it has
-- no value yet; or it is the negation of a guard without a value, and fewer are not false.
abbrev pub IsForced : List Literal → Bounded → ℕ → Type 0
IsForced trail c place =
    (is_unset trail (lit_at (listed c) place) ≡ true)
    × (((place < length c.lits) × (open_places trail c.lits ≡ c.bound) × IsBinding trail c.guard)
    ⊎ ((length c.lits ≤ place) × (open_places trail c.lits < c.bound)))

-- some place is forced
abbrev pub IsForcing : List Literal → Bounded → Type 0
IsForcing trail c = (place : ℕ) × (place < length (listed c)) × IsForced trail c place

-- What a look says: the answers exclude each other.
abbrev pub IsLook : List Literal → Bounded → Look → Type 0
IsLook trail c looked.Conflict = IsConflicting trail c
IsLook trail c looked.Forces = IsForcing trail c
IsLook trail c looked.Quiet = (IsConflicting trail c → ⊥) × (IsForcing trail c → ⊥)

-- no watched literal is false
abbrev pub NoneFalse : List Literal → Bounded → (ℕ → Bool) → Type 0
NoneFalse trail c watched = (place : ℕ) → place < length (listed c) → watched place ≡ true → is_open trail (lit_at (listed c) place) ≡ true

-- At some level it is satisfied, and no watched literal became false before that level.
abbrev pub IsSettled : List Made → Bounded → (ℕ → Bool) → Type 0
IsSettled made c watched = (level : ℕ) × IsSatisfied (literals (below (level + 1) made)) c × NoneFalse (literals (below level made)) c watched

-- how many of so many places are watched, from this one on
abbrev pub count_watched : (ℕ → Bool) → ℕ → ℕ → ℕ
count_watched watched from zero = 0
count_watched watched from (suc n) = (if watched from then 1 else 0) + count_watched watched (from + 1) n

-- the watched places are as many as the lesser of the bound plus 1 and the number of literals
abbrev pub HasWatches : Bounded → (ℕ → Bool) → Type 0
HasWatches c watched = count_watched watched 0 (length (listed c)) ≡ min (c.bound + 1) (length (listed c))

-- what the laws on quiet speak of
abbrev pub IsBroad : Bounded → Type 0
IsBroad c = c.bound < length (listed c)

-- Law 3: a constraint with more literals than its bound, none of whose watched literals is false, is not short.
abbrev pub QuietLaw : Bounded → (ℕ → Bool) → Type 0
QuietLaw c watched = (trail : List Literal) → IsBroad c → HasWatches c watched → NoneFalse trail c watched → IsShort trail c → ⊥

-- one watched place less, another more, all others as before
pub record IsMoved (trail : List Literal) (c : Bounded) (old new : ℕ → Bool) (from to : ℕ) : Type 0 where
  pub within : to < length (listed c)
  pub released : new from ≡ false
  pub taken : new to ≡ true
  pub fresh : old to ≡ false
  pub open_ : is_open trail (lit_at (listed c) to) ≡ true
  pub others : (place : ℕ) → place ≢ from → place ≢ to → new place ≡ old place

-- a false literal is watched only where every place whose literal is not false is watched, and of the
-- false literals those of the highest levels are watched
pub record IsLatest (made : List Made) (c : Bounded) (watched : ℕ → Bool) : Type 0 where
  pub open_ : (p q : ℕ) → p < length (listed c) → q < length (listed c) → watched p ≡ true → is_open (literals made) (lit_at (listed c) p) ≡ false → is_open (literals made) (lit_at (listed c) q) ≡ true → watched q ≡ true
  pub late : (p q : ℕ) (level : ℕ) → p < length (listed c) → q < length (listed c) → watched p ≡ true → watched q ≡ false → is_open (literals (below level made)) (lit_at (listed c) p) ≡ false → is_open (literals made) (lit_at (listed c) q) ≡ false → is_open (literals (below level made)) (lit_at (listed c) q) ≡ false

-- What the answer of a visit of a place says.
abbrev pub IsTurn : List Literal → Bounded → (ℕ → Bool) → (ℕ → Bool) → ℕ → Visit → Type 0
IsTurn trail c old new from (Moved to) = IsMoved trail c old new from to
IsTurn trail c old new from Satisfied = (new ≡ old) × IsSatisfied trail c
IsTurn trail c old new from Forces = (new ≡ old) × IsForcing trail c
IsTurn trail c old new from Conflict = (new ≡ old) × IsConflicting trail c

-- What the answer of the first watches says.
abbrev pub IsStart : List Made → Bounded → (ℕ → Bool) → Visit → Type 0
IsStart made c watched (Moved to) =
    (to ≡ 0) × NoneFalse (literals made) c watched × (IsSatisfied (literals made) c → ⊥) × (IsForcing (literals made) c → ⊥) × (IsConflicting (literals made) c → ⊥)
IsStart made c watched Satisfied = IsLatest made c watched × IsSatisfied (literals made) c
IsStart made c watched Forces = IsLatest made c watched × IsForcing (literals made) c
IsStart made c watched Conflict = IsLatest made c watched × IsConflicting (literals made) c
