-- Which literals of a trail the count of a constraint rests on, and which places of a trail explain one another.
use Rattle.std.specs.Prelude.{ℕ, ◌≡◌, ◌≤◌, ◌<◌, ◌⊎◌, ◌==◌, ◌∷◌, ◌++◌, Bool, true, false, if◌then◌else◌, List, [], map, take, Option, Some, None, slice_get}
use Rattle.std.specs.List.{list_any, AllByRecursion}
use Rattle.kn_logic.specs.Literals.{Literal, negated, has, AreDifferent}
use Rattle.kn_logic.specs.Constraints.{Bounded}
use Rattle.kn_logic.specs.Propagation.{after_hint}
use Rattle.kn_watch.specs.declared.trail.Made.{Made}
use Rattle.kn_watch.specs.Trails.{literals}
use Rattle.kn_watch.specs.Watches.{listed}
use Rattle.kn_propagate.specs.Engines.{Live, live_in, IsForcedAt}

-- whether the constraint's count rests on this literal being true: it makes one of its literals false, or it is its
-- guard
abbrev pub rests_on : Bounded → Literal → Bool
rests_on c l = has (listed c) (negated l)

-- As a hint, the constraint gives the literal, unless it ends the run in conflict.
abbrev pub Gives : List Literal → Bounded → Literal → Type 0
Gives trail c l = (next : List Literal) → after_hint trail c ≡ Some next → has next l ≡ true

abbrev pub contains : List ℕ → ℕ → Bool
contains places place = list_any (λ q. q == place) places

-- Each literal before a place that the constraint rests on is started from, or stands at one of these places.
abbrev pub RestsOn : List Made → List Literal → List ℕ → Bounded → ℕ → Type 0
RestsOn made start places c place =
    (q : ℕ) (m : Made) → q < place → slice_get made q ≡ Some m → rests_on c m.lit ≡ true
    → (has start m.lit ≡ true) ⊎ (contains places q ≡ true)

-- the literal of the place has a reason, which rests on these alone
abbrev pub IsExplained : List Live → List Made → List Literal → List ℕ → ℕ → Type 0
IsExplained live made start places place =
    (m : Made) × (id : ℕ) × (slice_get made place ≡ Some m) × (m.reason ≡ Some id)
    × ((c : Bounded) → live_in live id ≡ Some c → RestsOn made start places c place)

abbrev pub IsAscending : List ℕ → Type 0
IsAscending [] = Unit {0}
IsAscending (p ∷ ps) = AllByRecursion (λ q. p ≤ q) ps × IsAscending ps

-- the reason of a literal; 0 where there is none
abbrev pub id_of : Option ℕ → ℕ
id_of None = 0
id_of (Some id) = id

abbrev pub reason_or : Option Made → ℕ
reason_or None = 0
reason_or (Some m) = id_of m.reason

-- the reason of the literal at a place; 0 where there is none
abbrev pub reason_at : List Made → ℕ → ℕ
reason_at made place = reason_or (slice_get made place)

-- whether this id was the last
abbrev pub is_last : Option ℕ → ℕ → Bool
is_last None id = false
is_last (Some x) id = x == id

-- the ids behind a last one, but none that follows itself
abbrev pub without_repeats : Option ℕ → List ℕ → List ℕ
without_repeats last [] = []
without_repeats last (id ∷ ids) = if is_last last id then without_repeats last ids else id ∷ without_repeats (Some id) ids

-- the reasons of places in their order, and behind them the conflict
abbrev pub hints_of : List Made → List ℕ → ℕ → List ℕ
hints_of made places conflict = without_repeats None (map (reason_at made) places) ++ conflict ∷ []

-- what a trail keeps of its entries
pub record IsForcedTrail (live : List Live) (made : List Made) : Type 0 where
  pub different : AreDifferent (literals made)
  pub forced : (p : ℕ) → IsForcedAt live made p
  pub new : (p : ℕ) (m : Made) → slice_get made p ≡ Some m → has (take p (literals made)) m.lit ≡ false

abbrev pub lit_or : Option Made → Literal
lit_or None = record { variable = 0; positive = true }
lit_or (Some m) = m.lit

-- the negations of the literals of these places
abbrev pub negations_at : List Made → List ℕ → List Literal
negations_at made places = map (λ p. negated (lit_or (slice_get made p))) places
