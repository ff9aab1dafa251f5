-- The proof of a solver, whole: an opening that puts klauses in place of the clauses that hid them, and behind it a
-- search on the formula that remains. And what an answer says.
use Rattle.std.specs.Prelude.{ℕ, ◌≡◌, ◌≤◌, ◌++◌, Bool, true, List, Option}
use Rattle.std.specs.List.{AllByRecursion}
use Rattle.kn_bytes.specs.Outside.{Got, GotPrefix}
use Rattle.kn_logic.specs.Formulas.{Problem, Satisfies}
use Rattle.kn_lines.specs.declared.line.Line.{Line}
use Rattle.kn_rules.specs.States.{ProofState, start}
use Rattle.kn_rules.specs.Stepping.{StepsBy, learned_in}
use Rattle.kn_rules.specs.Searching.{SearchesBy, searched}
use Rattle.kn_log.specs.Logs.{line_bytes, header_of}
use Rattle.kn_log.specs.Written.{AreSpelled, lines_bytes}
use Rattle.kn_extract.specs.Extractions.{Found, IsExtraction}
use Rattle.kn_extract.specs.Kept.{Extracted}
use Rattle.kn_rebuild.specs.Rebuilding.{AreByRule}
use Rattle.kn_opening.specs.Openings.{AreOpeningLines, AreLike}
use Rattle.kn_search.specs.declared.outcome.Options.{Options}
use Rattle.kn_search.specs.declared.outcome.Outcome.{Outcome}
use Rattle.kn_search.specs.declared.outcome.Outcome.TheVariants.{Model, Refuted, Spent}
use Rattle.kn_search.specs.declared.outcome.SearchError.{SearchError}

-- The lines behind the header of a solver's proof. Behind the opening a search rests on the constraints of the formula
-- that remains of the extraction, equally many of each, the literals of a klause in any order. What follows are learned
-- clauses that are new, deletions of learned clauses as forgetting allows, and at last perhaps the clause without
-- literals; none of it rests on a definition or a lemma of the opening.
pub record IsSolverProof (f : Problem) (forget : ℕ) (found : List Found) (opening body : List Line) (last : ProofState) : Type 0 where
  pub remains : Problem
  pub middle : ProofState
  pub extraction : IsExtraction f found remains
  pub opens : StepsBy (start f) opening middle
  pub lines : AreOpeningLines opening
  pub begins : AreLike (searched middle.given) remains.constraints
  pub searches : SearchesBy f.vars forget 0 middle body last

-- what an outcome says, where so many clauses were learned
abbrev pub Says : Problem → List Found → ℕ → ℕ → ProofState → Outcome → Type 0
Says f found budget learned last (Model values) = Satisfies values f × AllByRecursion (λ x. AreByRule values x.group) found
Says f found budget learned last Refuted = last.refuted ≡ true
Says f found budget learned last (Spent count) = (count ≡ budget) × (learned ≡ budget)

-- Solving ended with this outcome, and the sink got a solver's proof, with no more learned clauses than the budget.
pub record Solves (f : Problem) (options : Options) (w w' : Option (List ℕ)) (outcome : Outcome) : Type 0 where
  pub found : List Found
  pub opening : List Line
  pub body : List Line
  pub last : ProofState
  pub proof : IsSolverProof f options.forget found opening body last
  pub spelled : AreSpelled (opening ++ body)
  pub got : Got w w' (line_bytes (header_of f) ++ lines_bytes (opening ++ body))
  pub within : learned_in body ≤ options.conflicts
  pub says : Says f found options.conflicts (learned_in body) last outcome

-- Solving ended with an error: the sink got a prefix of the text of lines that step, of which no more than the budget are
-- learned clauses.
pub record SolvesNot (f : Problem) (options : Options) (w w' : Option (List ℕ)) : Type 0 where
  pub lines : List Line
  pub last : ProofState
  pub steps : StepsBy (start f) lines last
  pub spelled : AreSpelled lines
  pub got : GotPrefix w w' (line_bytes (header_of f) ++ lines_bytes lines)
  pub within : learned_in lines ≤ options.conflicts

-- A model of what remains of an extraction became one of the formula, by the rule of rebuilding; another outcome stayed.
abbrev pub IsFinished : Extracted → Outcome → Outcome → Type 0
IsFinished e (Model values) result = (w : List Bool) × (result ≡ Model w) × Satisfies w e.original × AllByRecursion (λ t. AreByRule w t.group) e.taken
IsFinished e Refuted result = result ≡ Refuted
IsFinished e (Spent count) result = result ≡ Spent count

-- what an outcome has to say of the formula that remains
abbrev pub IsOutcomeOf : Problem → Outcome → Type 0
IsOutcomeOf f (Model values) = Satisfies values f
IsOutcomeOf f other = Unit {0}
