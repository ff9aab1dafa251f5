-- What is learned of a conflict: a clause, and hints that refute its negation.
use Rattle.std.specs.Prelude.{ℕ, ◌≡◌, ◌≤◌, ◌<◌, ◌+◌, ◌⊎◌, ◌∷◌, List, [], map, true, Option, Some, None, option_map, option_and_then, slice_get}
use Rattle.std.specs.List.{AllByRecursion}
use Rattle.kn_logic.specs.Literals.{Literal, negated, has, AreKnown}
use Rattle.kn_logic.specs.Constraints.{Bounded, clause}
use Rattle.kn_logic.specs.Newness.{IsNew}
use Rattle.kn_logic.specs.Propagation.{hint_run, IsShort}
use Rattle.kn_watch.specs.declared.trail.Made.{Made}
use Rattle.kn_watch.specs.Trails.{literals, below}
use Rattle.kn_propagate.specs.Engines.{Live, Engined, constraints, live_in}

-- a learned clause as it is seen: its literals, the level to go back to, and its hints
pub record Lesson : Type 0 where
  pub lits : List Literal
  pub level : ℕ
  pub hints : List ℕ

-- the constraints of these ids; none where one of them is not live
abbrev pub hinted_by : (ℕ → Option Bounded) → List ℕ → Option (List Bounded)
hinted_by live [] = Some []
hinted_by live (id ∷ ids) = option_and_then (λ c. option_map (λ cs. c ∷ cs) (hinted_by live ids)) (live id)

-- The hints are live, and their run from the negations of the literals ends in conflict.
abbrev pub Refutes : List Live → List Literal → List ℕ → Type 0
Refutes live lits hints = (cs : List Bounded) × (hinted_by (live_in live) hints ≡ Some cs) × (hint_run (map negated lits) cs ≡ None)

-- The literal is the negation of one of the trail, which came at a level that passes.
abbrev pub IsRefutedAt : (ℕ → Type 0) → List Made → Literal → Type 0
IsRefutedAt Passes made l = (p : ℕ) × (m : Made) × (slice_get made p ≡ Some m) × (l ≡ negated m.lit) × Passes m.level

-- Each of the literals is the negation of one of the trail. The level is the highest at which one of these came, or
-- 0 where there are none.
pub record IsHighest (made : List Made) (lits : List Literal) (level : ℕ) : Type 0 where
  pub within : AllByRecursion (IsRefutedAt (λ k. k ≤ level) made) lits
  pub reached : (level ≡ 0) ⊎ ((l : Literal) × (has lits l ≡ true) × IsRefutedAt (λ k. k ≡ level) made l)

-- What a conflict of the engine teaches: the first literal is the negation of one of the present level, all others
-- are of lower ones.
pub record IsLesson (g : Engined) (l : Lesson) : Type 0 where
  pub first : Literal
  pub others : List Literal
  pub parts : l.lits ≡ first ∷ others
  pub top : IsRefutedAt (λ k. k ≡ g.trail.level) g.trail.made first
  pub highest : IsHighest g.trail.made others l.level
  pub lower : l.level < g.trail.level
  pub known : AreKnown g.trail.vars l.lits
  pub new : IsNew (constraints g.live) l.lits
  pub refutes : Refutes g.live l.lits l.hints
  -- below its level the clause is not short: an engine that has gone back to its level can take it
  pub waits : (k : ℕ) → k < l.level → IsShort (literals (below (k + 1) g.trail.made)) (clause l.lits) → ⊥

-- the constraint of the id forced a literal of the trail
abbrev pub IsReason : List Made → ℕ → Type 0
IsReason made id = (p : ℕ) × (m : Made) × (slice_get made p ≡ Some m) × (m.reason ≡ Some id)
