-- What an engine keeps of its tables, slot by slot.
use Rattle.std.specs.Prelude.{ℕ, ◌≡◌, ◌≤◌, ◌<◌, ◌+◌, ◌*◌, ◌^◌, ◌++◌, ◌⊎◌, true, List, [], ◌∷◌, length, take, slice_get, slice_set, Option, Some, None}
use Rattle.kn_logic.specs.Constraints.{Bounded}
use Rattle.kn_logic.specs.Literals.{Literal}
use Rattle.kn_logic.specs.Propagation.{IsShort, open_places}
use Rattle.kn_watch.specs.declared.trail.Made.{Made}
use Rattle.kn_propagate.specs.declared.step.Step.{Step}
use Rattle.kn_propagate.specs.declared.step.Step.TheVariants.{Closed, Conflict}
use Rattle.kn_watch.specs.Trails.{Trailed, literals, below}
use Rattle.kn_watch.specs.Watches.{listed, NoneFalse, IsSatisfied, IsConflicting, IsBroad}
use Rattle.kn_propagate.specs.Chains.{Watching, Chained, vacancy, at_slot, is_in, nobody, AreKept, IsAtRest, IsFresh, IsStill, AreSpare, HasReason}
use Rattle.kn_propagate.specs.Engines.{Live}

abbrev pub with_live : Option ℕ → Bounded → List Live → List Live
with_live None c live = live
with_live (Some id) c live = record { id = id; constraint = c } ∷ live

-- the constraints of the slots that are not free
abbrev pub live_of : List Watching → List Live
live_of [] = []
live_of (w ∷ ws) = with_live w.id w.c (live_of ws)

-- The table finds the slot of each id.
pub record IsIndex (ws : List Watching) (find : ℕ → Option ℕ) : Type 0 where
  pub found : (id slot : ℕ) → find id ≡ Some slot → (slot < length ws) × ((at_slot ws slot).id ≡ Some id)
  pub kept : (id slot : ℕ) → slot < length ws → (at_slot ws slot).id ≡ Some id → find id ≡ Some slot

-- the literal was assumed: the first of its level, which is not 0
abbrev pub IsAssumed : List Made → ℕ → Made → Type 0
IsAssumed made place m = (m.reason ≡ None) × (1 ≤ m.level) × ((q : ℕ) (n : Made) → q < place → slice_get made q ≡ Some n → n.level < m.level)

-- its level began before
abbrev pub IsFollowing : List Made → ℕ → Made → Type 0
IsFollowing made place m = (m.level ≡ 0) ⊎ ((q : ℕ) × (n : Made) × (q < place) × (slice_get made q ≡ Some n) × (n.level ≡ m.level))

-- each literal was assumed, or forced by its reason when its level had begun
abbrev pub AreFounded : List Watching → List Made → Type 0
AreFounded ws made = (place : ℕ) (m : Made) → slice_get made place ≡ Some m → IsAssumed made place m ⊎ (HasReason ws (take place (literals made)) m × IsFollowing made place m)

-- each level above 0 up to the present one has a literal
abbrev pub AreBegun : Trailed → Type 0
AreBegun t = (k : ℕ) → 1 ≤ k → k ≤ t.level → (p : ℕ) × (m : Made) × (slice_get t.made p ≡ Some m) × (m.level ≡ k)

abbrev pub IsQuiet : List Literal → List Watching → Type 0
IsQuiet trail ws = (slot : ℕ) → slot < length ws → IsShort trail (at_slot ws slot).c → ⊥

-- what the last step says, slot by slot
abbrev pub Says : Trailed → List Watching → ℕ → Option Step → Type 0
Says t ws visited None = Unit {0}
Says t ws visited (Some Closed) = (length t.made ≤ visited) × IsQuiet (literals t.made) ws
Says t ws visited (Some (Conflict id)) = (slot : ℕ) × (slot < length ws) × ((at_slot ws slot).id ≡ Some id) × IsConflicting (literals t.made) (at_slot ws slot).c

-- It is to be looked at by the next propagation: no watched literal became false below the present level, and no
-- more literals than its bound are not false.
abbrev pub IsPending : Trailed → List ℕ → ℕ → Watching → Type 0
IsPending t pending slot w = (is_in slot pending ≡ true) × NoneFalse (literals (below t.level t.made)) w.c w.watches × (open_places (literals t.made) (listed w.c) ≤ w.c.bound)

-- It has more literals than its bound, or it is satisfied for good, or it is to be looked at, at level 0.
abbrev pub IsGuarded : Trailed → List ℕ → ℕ → Watching → Type 0
IsGuarded t pending slot w = IsBroad w.c ⊎ (IsSatisfied (literals (below 1 t.made)) w.c ⊎ ((t.level ≡ 0) × (is_in slot pending ≡ true)))

-- what the tables keep, slot by slot
pub record IsTabled (t : Trailed) (ws : List Watching) (chains : Chained) (visited : ℕ) (pending : List ℕ) : Type 0 where
  pub small : 2 * t.vars + 3 < 2 ^ 64
  pub sized : length chains.heads ≡ 2 * t.vars + 3
  pub visited_ : visited ≤ length t.made
  pub few : length ws ≤ nobody
  pub kept : AreKept t.vars ws
  pub fresh : IsFresh t visited
  pub founded : AreFounded ws t.made
  pub begun : AreBegun t
  pub still : IsStill ws chains
  pub spare : AreSpare chains
  pub rest : (slot : ℕ) → slot < length ws → IsAtRest t.made (take visited (literals t.made)) (at_slot ws slot) ⊎ IsPending t pending slot (at_slot ws slot)
  pub narrow : (slot : ℕ) → slot < length ws → IsGuarded t pending slot (at_slot ws slot)
  pub due : (slot : ℕ) → is_in slot pending ≡ true → slot < length ws
  -- what going back to a lower level leaves is closed
  pub lower : (k : ℕ) → k < t.level → IsQuiet (literals (below (k + 1) t.made)) ws

pub record IsWhole (t : Trailed) (ws : List Watching) (chains : Chained) (visited : ℕ) (last : Option Step) (pending : List ℕ) (find : ℕ → Option ℕ) : Type 0 where
  pub tabled : IsTabled t ws chains visited pending
  pub index : IsIndex ws find
  pub says : Says t ws visited last

-- one constraint more, in a slot that was free
abbrev pub IsFilled : List Watching → List Watching → ℕ → ℕ → Bounded → Type 0
IsFilled ws new slot id c = (w : Watching) × (new ≡ slice_set ws slot w) × (w.id ≡ Some id) × (w.c ≡ c)

-- The slot is free; it may be a new one behind all others.
pub record IsVacant (ws new : List Watching) (slot : ℕ) : Type 0 where
  pub grown : (new ≡ ws) ⊎ (new ≡ ws ++ vacancy ∷ [])
  pub inside : slot < length new
  pub few : length new ≤ nobody
  pub free : (at_slot new slot).id ≡ None
