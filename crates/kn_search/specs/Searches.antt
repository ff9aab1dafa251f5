-- What a search does between two of its conflicts, and what it keeps of the clauses that it has learned.
use Rattle.std.specs.Prelude.{ℕ, ◌≡◌, ◌≤◌, ◌+◌, ◌==◌, ◌||◌, Bool, true, false, List, [], ◌∷◌, length, Option, Some, None}
use Rattle.std.specs.List.{AllByRecursion}
use Rattle.kn_logic.specs.Constraints.{Bounded}
use Rattle.kn_lines.specs.declared.line.Line.{Line}
use Rattle.kn_rules.specs.declared.given.Given.{Given}
use Rattle.kn_rules.specs.States.{ProofState, given_at}
use Rattle.kn_rules.specs.Stepping.{learned_in, deletions_in}
use Rattle.kn_rules.specs.Searching.{is_learned, learned_live, SearchesBy, HasNoLemma}
use Rattle.kn_log.specs.Logs.{Logged}
use Rattle.kn_log.specs.Written.{AddsSuch, LogsSuchNot}
use Rattle.kn_log.specs.declared.error.LogError.{LogError}
use Rattle.kn_watch.specs.declared.trail.Made.{Made}
use Rattle.kn_propagate.specs.Engines.{Live, live_in, removed, IsNoReason}
use Rattle.kn_search.specs.Outcomes.{MayLog}

-- Lines of a search that goes on: so many of them are learned clauses, so many are deletions, and none is a lemma.
pub record IsPart (vars forget deletions learned more : ℕ) (old new : ProofState) (lines : List Line) : Type 0 where
  pub searches : SearchesBy vars forget deletions old lines new
  pub none : HasNoLemma lines
  pub learned_ : learned_in lines ≡ learned
  pub deleted : deletions_in lines ≡ more

-- what a part of a search has logged: such lines
abbrev pub LogsPart : ℕ → ℕ → ℕ → ℕ → ℕ → Logged → Logged → Option (List ℕ) → Option (List ℕ) → Type 0
LogsPart vars forget deletions learned more old new w w' = AddsSuch (IsPart vars forget deletions learned more old.state new.state) old new w w'

-- and where it failed: lines that a search may log, the last of them perhaps not whole
abbrev pub LogsPartNot : ℕ → ℕ → ℕ → ℕ → Logged → Logged → Option (List ℕ) → Option (List ℕ) → LogError → Type 0
LogsPartNot vars forget deletions most old new w w' e = LogsSuchNot (MayLog vars forget deletions most old.state new.state) old new w w' e

-- the number stands in the list
abbrev pub contains : List ℕ → ℕ → Bool
contains [] q = false
contains (p ∷ ps) q = (p == q) || contains ps q

-- no number stands there twice
abbrev pub AreOnce : List ℕ → Type 0
AreOnce [] = Unit {0}
AreOnce (p ∷ ps) = (contains ps p ≡ false) × AreOnce ps

-- the id is that of a live learned clause
abbrev pub IsLiveLearned : List Given → ℕ → Type 0
IsLiveLearned given id = (entry : Given) × (c : Bounded) × (given_at given id ≡ Some entry) × (is_learned entry.origin ≡ true) × (entry.live ≡ Some c)

-- Ids of live learned clauses, each once.
pub record AreHeld (given : List Given) (ids : List ℕ) : Type 0 where
  pub learned : AllByRecursion (IsLiveLearned given) ids
  pub once : AreOnce ids
  pub count : length ids ≤ length (learned_live given)

-- The constraints that were live at first are live, and none of them has one of these ids.
pub record AreKept (first live : List Live) (ids : List ℕ) : Type 0 where
  pub live_ : (id : ℕ) (c : Bounded) → live_in first id ≡ Some c → live_in live id ≡ Some c
  pub others : AllByRecursion (λ id. live_in first id ≡ None) ids

-- the live constraints without those of these ids
abbrev pub removed_all : List ℕ → List Live → List Live
removed_all [] live = live
removed_all (id ∷ ids) live = removed_all ids (removed id live)

-- The ids in two parts: those of the one are no reasons on the trail, and the rest. Each stands in one of them, once.
pub record IsSplit (made : List Made) (ids out rest : List ℕ) : Type 0 where
  pub free : AllByRecursion (IsNoReason made) out
  pub out_in : (q : ℕ) → contains out q ≡ true → contains ids q ≡ true
  pub rest_in : (q : ℕ) → contains rest q ≡ true → contains ids q ≡ true
  pub apart : (q : ℕ) → contains out q ≡ true → contains rest q ≡ true → ⊥
  pub out_once : AreOnce out
  pub rest_once : AreOnce rest
  pub count : length out + length rest ≡ length ids
