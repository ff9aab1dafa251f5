-- What `solve` answers of a file, and of the proof that it writes.
use Rattle.std.specs.Prelude.{ℕ, ◌≡◌, ◌≤◌, ◌<◌, ◌^◌, ◌++◌, Bool, List, Option, None, Some}
use Rattle.std.specs.List.{AllByRecursion}
use Rattle.kn_bytes.specs.Outside.{Rose, Got, GotPrefix}
use Rattle.kn_logic.specs.Formulas.{Problem, Satisfies, IsUnsatisfiable}
use Rattle.kn_format.specs.Texts.{model_text}
use Rattle.kn_format.specs.Grammar.{Spells, SpellsNone}
use Rattle.kn_format.specs.Faults.{IsFirstFault, refusal}
use Rattle.kn_rules.specs.States.{ProofState}
use Rattle.kn_rules.specs.Proofs.{Steps, IsProof}
use Rattle.kn_log.specs.Written.{learned_count}
use Rattle.kn_extract.specs.Extractions.{Found, IsExtraction}
use Rattle.kn_rebuild.specs.Rebuilding.{AreByRule}
use Rattle.kn_tool.specs.declared.answer.Which.TheVariants.{Proof}
use Rattle.kn_tool.specs.declared.answer.Answer.{Answer}
use Rattle.kn_tool.specs.declared.answer.Answer.TheVariants.{Model, Refuted, Unknown, Refused, WriteFault, NoMemory}
use Rattle.kn_tool.specs.Answers.{answer_text, own_text}
use Rattle.kn_tool.specs.Changes.{Change, Source, Sink, Untouched}
use Rattle.kn_tool.specs.Files.{Accepts, FormulaRow}
use Rattle.kn_tool.specs.SolverProofs.{IsSolverProof, AllNew}

-- a header for the formula, and lines that step
abbrev pub IsStepping : Problem → List ℕ → Type 0
IsStepping f bytes = (last : ProofState) × Steps f bytes last

-- The sink got these bytes, whose lines step. They are the proof of a solver that may forget; each of its learned clauses is
-- new, and no more of its lines than the budget are learned clauses.
pub record Writes (budget forget : ℕ) (f : Problem) (proof : Change Sink) (bytes : List ℕ) : Type 0 where
  pub steps : IsStepping f bytes
  pub got : Got proof.old.written proof.new.written bytes
  pub shape : IsSolverProof f forget bytes
  pub new : AllNew f bytes
  pub within : learned_count bytes ≤ budget

-- The sink got a prefix of bytes whose lines step, and of which no more than the budget are learned clauses.
abbrev pub GotSteps : ℕ → Problem → Change Sink → Type 0
GotSteps budget f proof =
    (bytes : List ℕ) × IsStepping f bytes × (learned_count bytes ≤ budget) × GotPrefix proof.old.written proof.new.written bytes

-- The auxiliary variables of the groups that the formula's extraction takes have their values by the rule of rebuilding.
abbrev pub HasRuleValues : Problem → List Bool → Type 0
HasRuleValues f values =
    (found : List Found) × (remains : Problem) × IsExtraction f found remains × AllByRecursion (λ x. AreByRule values x.group) found

-- the text of a model: the answer, and the values
abbrev pub satisfiable_text : List Bool → List ℕ
satisfiable_text values = answer_text Model ++ model_text values

-- The budget is one that can be spent: fewer than 3 to the power of the number of variables clauses are new one after
-- another, and fewer than 9 to that power where some are forgotten.
abbrev pub IsSmall : ℕ → ℕ → ℕ → Type 0
IsSmall budget forget vars = (forget ≡ 0 → budget < 3 ^ vars) × (budget < 9 ^ vars)

-- the rows of a formula, and of the proof that was written
pub data SolvedRow (budget forget : ℕ) (proof : Change Sink) (f : Problem) : Answer → Option (List ℕ) → Type 0 where
  model : (values : List Bool) (bytes : List ℕ) → Writes budget forget f proof bytes → Satisfies values f → HasRuleValues f values
      → SolvedRow budget forget proof f Model (Some (satisfiable_text values))
  refuted : (bytes : List ℕ) → Writes budget forget f proof bytes → IsProof f bytes → IsUnsatisfiable f
      → SolvedRow budget forget proof f Refuted (own_text Refuted)
  unknown : (bytes : List ℕ) → Writes budget forget f proof bytes → learned_count bytes ≡ budget → IsSmall budget forget f.vars
      → SolvedRow budget forget proof f (Unknown budget) (own_text (Unknown budget))
  no_memory : GotSteps budget f proof → SolvedRow budget forget proof f NoMemory None
  fails : Rose proof.old.faults proof.new.faults → GotSteps budget f proof → SolvedRow budget forget proof f (WriteFault Proof) None

abbrev pub SolveRow : ℕ → ℕ → Change Source → Change Sink → Answer → Option (List ℕ) → Type 0
SolveRow budget forget formula proof = FormulaRow formula (Untouched proof) (SolvedRow budget forget proof)

-- The file spells a formula, and the proof that was written is an accepted one, so the formula has no model.
abbrev pub Refutes : ℕ → ℕ → Change Source → Change Sink → Type 0
Refutes budget forget formula proof =
    (f : Problem) × (bytes : List ℕ) × Accepts formula f × Writes budget forget f proof bytes × IsProof f bytes × IsUnsatisfiable f

-- The file spells a formula, and values were printed that satisfy it, auxiliary variables by the rule.
abbrev pub PrintsModel : ℕ → ℕ → Change Source → Change Sink → Change Sink → Type 0
PrintsModel budget forget formula proof out =
    (f : Problem) × (values : List Bool) × (bytes : List ℕ) × Accepts formula f × Writes budget forget f proof bytes
    × Satisfies values f × HasRuleValues f values × Got out.old.written out.new.written (satisfiable_text values)

-- The file spells a formula, and the proof that was written has as many learned clauses as the budget, all of them new.
abbrev pub Exhausts : ℕ → ℕ → Change Source → Change Sink → Type 0
Exhausts budget forget formula proof =
    (f : Problem) × (bytes : List ℕ) × Accepts formula f × Writes budget forget f proof bytes × (learned_count bytes ≡ budget)

-- The headline. At each of the three answers the proof that was written is a solver's, its learned clauses are all new, and
-- there are no more of them than the budget.
abbrev pub SolveHeadline : ℕ → ℕ → Change Source → Change Sink → Change Sink → Answer → Type 0
SolveHeadline budget forget formula proof out Model = PrintsModel budget forget formula proof out
SolveHeadline budget forget formula proof out Refuted = Refutes budget forget formula proof
SolveHeadline budget forget formula proof out (Unknown learned) = (learned ≡ budget) × Exhausts budget forget formula proof
SolveHeadline budget forget formula proof out answer = Unit {0}

-- What `solve` answers of a text: an accepted file has one of the three answers, the third only where the budget is
-- small; any other has its first fault, unless memory is short.
abbrev pub Concludes : ℕ → ℕ → List ℕ → Answer → Type 0
Concludes budget forget text Model = (f : Problem) × Spells text f
Concludes budget forget text Refuted = (f : Problem) × Spells text f
Concludes budget forget text (Unknown learned) = (f : Problem) × Spells text f × IsSmall budget forget f.vars
Concludes budget forget text (Refused line why) = IsFirstFault text (refusal line why) × SpellsNone text
Concludes budget forget text NoMemory = Unit {0}
Concludes budget forget text answer = ⊥
