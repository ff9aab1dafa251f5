-- What a search has done: the lines that it logged, and what its outcome says.
use Rattle.std.specs.Prelude.{ℕ, ◌≡◌, ◌≤◌, ◌<◌, ◌^◌, Bool, true, List, length, Option}
use Rattle.std.specs.List.{AllByRecursion}
use Rattle.kn_logic.specs.Constraints.{Holds}
use Rattle.kn_lines.specs.declared.line.Line.{Line}
use Rattle.kn_rules.specs.States.{ProofState}
use Rattle.kn_rules.specs.Stepping.{learned_in}
use Rattle.kn_rules.specs.Searching.{SearchesBy}
use Rattle.kn_log.specs.Logs.{Logged}
use Rattle.kn_log.specs.Written.{Adds, AddsSuch, BreaksSuch}
use Rattle.kn_log.specs.declared.error.LogError.{LogError}
use Rattle.kn_log.specs.declared.error.LogError.TheVariants as log
use Rattle.kn_propagate.specs.Engines.{Engined, constraints}
use Rattle.kn_search.specs.declared.outcome.Options.{Options}
use Rattle.kn_search.specs.declared.outcome.Outcome.{Outcome}
use Rattle.kn_search.specs.declared.outcome.Outcome.TheVariants.{Model, Refuted, Spent}
use Rattle.kn_search.specs.declared.outcome.SearchError.{SearchError}
use Rattle.kn_search.specs.declared.outcome.SearchError.TheVariants.{Memory, WriteFault}

-- Lines that a search over the variables from 1 to `vars` may log from the one state to the other, when it has
-- logged so many deletions before. No more of them than `most` are learned clauses.
abbrev pub MayLog : ℕ → ℕ → ℕ → ℕ → ProofState → ProofState → List Line → Type 0
MayLog vars forget deletions most old new lines = SearchesBy vars forget deletions old lines new × (learned_in lines ≤ most)

-- a value for each variable of the engine, under which each of its constraints holds
abbrev pub IsModelOf : Engined → List Bool → Type 0
IsModelOf engine values = (length values ≡ engine.trail.vars) × AllByRecursion (Holds values) (constraints engine.live)

-- What an outcome says, after so many learned clauses, of the engine that was handed in and of the log's last state.
abbrev pub Tells : Engined → ℕ → ℕ → ProofState → Outcome → Type 0
Tells engine budget learned last (Model values) = IsModelOf engine values
Tells engine budget learned last Refuted = last.refuted ≡ true
Tells engine budget learned last (Spent count) = (count ≡ budget) × (learned ≡ budget)

-- A search with this engine ended with this outcome. The lines that it logged are such as a search may log, and no
-- more of them than the budget are learned clauses.
pub record Ends (engine : Engined) (options : Options) (old new : Logged) (w w' : Option (List ℕ)) (outcome : Outcome) : Type 0 where
  pub lines : List Line
  pub adds : Adds lines old new w w'
  pub searches : SearchesBy engine.trail.vars options.forget 0 old.state lines new.state
  pub within : learned_in lines ≤ options.conflicts
  pub tells : Tells engine options.conflicts (learned_in lines) new.state outcome

-- A search ended with an error: the lines that it logged are such as a search may log, no more of them than the budget
-- are learned clauses, and all but the last were written whole; that one too where memory was short.
abbrev pub EndsNot : Engined → Options → Logged → Logged → Option (List ℕ) → Option (List ℕ) → SearchError → Type 0
EndsNot engine options old new w w' Memory = AddsSuch (MayLog engine.trail.vars options.forget 0 options.conflicts old.state new.state) old new w w'
EndsNot engine options old new w w' WriteFault = BreaksSuch (MayLog engine.trail.vars options.forget 0 options.conflicts old.state new.state) old new w w'

-- A budget that can be spent: below 3 to the power of the number of variables where nothing is forgotten, and below 9
-- to that power in any case.
abbrev pub IsSmall : Options → ℕ → Type 0
IsSmall options vars = (options.forget ≡ 0 → options.conflicts < 3 ^ vars) × (options.conflicts < 9 ^ vars)

-- what a search answers where its log fails
abbrev pub error_of : LogError → SearchError
error_of log.Memory = Memory
error_of log.Fault = WriteFault
