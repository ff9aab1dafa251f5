-- An engine as its callers see it, and what its type keeps.
use Rattle.std.specs.Prelude.{ℕ, ◌≡◌, ◌≤◌, ◌<◌, ◌+◌, ◌-◌, ◌==◌, not, if◌then◌else◌, List, [], ◌∷◌, ◌++◌, length, map, filter, take, slice_get, Option, Some, None}
use Rattle.std.specs.List.{AllByRecursion}
use Rattle.kn_logic.specs.Literals.{AreKnown, AreDifferent}
use Rattle.kn_logic.specs.Constraints.{Bounded, IsWithin}
use Rattle.kn_logic.specs.Propagation.{IsClosed, after_hint, Forces}
use Rattle.kn_watch.specs.declared.trail.Made.{Made}
use Rattle.kn_propagate.specs.declared.step.Step.{Step}
use Rattle.kn_propagate.specs.declared.step.Step.TheVariants.{Closed, Conflict}
use Rattle.kn_watch.specs.Trails.{Trailed, literals, below, IsRising}

-- a live constraint
pub record Live : Type 0 where
  pub id : ℕ
  pub constraint : Bounded

pub record Engined : Type 0 where
  pub trail : Trailed
  pub live : List Live
  -- how the last propagation ended, as long as nothing that was done since made that untrue
  pub last : Option Step

abbrev pub constraints : List Live → List Bounded
constraints live = map (λ l. l.constraint) live

-- the live constraint of an id
abbrev pub live_in : List Live → ℕ → Option Bounded
live_in [] id = None
live_in (l ∷ live) id = if l.id == id then Some l.constraint else live_in live id

-- the live constraints with one more, somewhere among them
abbrev pub IsAdded : List Live → ℕ → Bounded → List Live → Type 0
IsAdded live id c new = (front : List Live) × (back : List Live) × (live ≡ front ++ back) × (new ≡ front ++ record { id = id; constraint = c } ∷ back)

-- the live constraints without that of an id
abbrev pub removed : ℕ → List Live → List Live
removed id live = filter (λ l. not (l.id == id)) live

-- no id stands there twice
abbrev pub AreApart : List Live → Type 0
AreApart [] = Unit {0}
AreApart (l ∷ live) = (live_in live l.id ≡ None) × AreApart live

-- The literal at this place of the trail, if it has a reason, was forced by it: the reason is live, and run as a
-- hint on the literals before this place it makes the literal true.
abbrev pub IsForcedAt : List Live → List Made → ℕ → Type 0
IsForcedAt live made place = (m : Made) (id : ℕ) → slice_get made place ≡ Some m → m.reason ≡ Some id
    → (c : Bounded) × (live_in live id ≡ Some c) × Forces (take place (literals made)) c m.lit

-- The literal at this place of the trail has a reason, by which it was forced.
abbrev pub HasReasonAt : List Live → List Made → ℕ → Type 0
HasReasonAt live made place = (m : Made) → slice_get made place ≡ Some m
    → (id : ℕ) × (c : Bounded) × (m.reason ≡ Some id) × (live_in live id ≡ Some c) × Forces (take place (literals made)) c m.lit

-- no literal of the trail was forced by the constraint of this id
abbrev pub IsNoReason : List Made → ℕ → Type 0
IsNoReason made id = (p : ℕ) (m : Made) → slice_get made p ≡ Some m → m.reason ≡ Some id → ⊥

-- The constraint of this id is live, and fewer of its literals than its bound are not false, and it has no
-- guard or a true one: run as a hint on the trail it ends in conflict.
abbrev pub IsConflict : Engined → ℕ → Type 0
IsConflict g id = (c : Bounded) × (live_in g.live id ≡ Some c) × (after_hint (literals g.trail.made) c ≡ None)

-- what the last step says
abbrev pub HasStepped : Engined → Option Step → Type 0
HasStepped g None = Unit {0}
HasStepped g (Some Closed) = IsClosed (literals g.trail.made) (constraints g.live)
HasStepped g (Some (Conflict id)) = IsConflict g id

-- a closed trail stays closed; a conflict may end
abbrev pub closed_only : Option Step → Option Step
closed_only None = None
closed_only (Some Closed) = Some Closed
closed_only (Some (Conflict id)) = None

-- what the type of an engine keeps
pub record IsEngine (g : Engined) : Type 0 where
  pub known : AreKnown g.trail.vars (literals g.trail.made)
  pub different : AreDifferent (literals g.trail.made)
  pub levels : (p : ℕ) (m : Made) → slice_get g.trail.made p ≡ Some m → m.level ≤ g.trail.level
  pub rising : IsRising g.trail.level g.trail.made
  -- a literal without a reason is the first of its level, which is not 0
  pub assumed : (p q : ℕ) (m n : Made) → slice_get g.trail.made p ≡ Some m → m.reason ≡ None → slice_get g.trail.made q ≡ Some n → q < p → n.level < m.level
  pub assumed_above : (p : ℕ) (m : Made) → slice_get g.trail.made p ≡ Some m → m.reason ≡ None → 1 ≤ m.level
  -- and the first of a level above 0 has no reason
  pub first : (p : ℕ) (m : Made) → slice_get g.trail.made p ≡ Some m → 1 ≤ m.level → ((q : ℕ) (n : Made) → q < p → slice_get g.trail.made q ≡ Some n → n.level < m.level) → m.reason ≡ None
  -- above level 0 the last literal is of the present level
  pub last : 1 ≤ g.trail.level → (m : Made) × (slice_get g.trail.made (length g.trail.made - 1) ≡ Some m) × (m.level ≡ g.trail.level)
  pub forced : (p : ℕ) → IsForcedAt g.live g.trail.made p
  -- what going back to a lower level leaves is closed
  pub closed : (n : ℕ) → n < g.trail.level → IsClosed (literals (below (n + 1) g.trail.made)) (constraints g.live)
  pub stepped : HasStepped g g.last
  pub apart : AreApart g.live
  pub within : AllByRecursion (λ l. IsWithin g.trail.vars l.constraint) g.live
