-- Reading the lines of a proof, each with its used hints alone.
use Rattle.std.specs.Prelude.{ℕ, ◌≡◌, ◌++◌, true, List, [], ◌∷◌, length, Ok}
use Rattle.std.specs.List.{AllByRecursion, list_any}
use Rattle.kn_logic.specs.Formulas.{Problem}
use Rattle.kn_text.specs.Lines.{Line as TextLine, content_from, content_of, lines_of}
use Rattle.kn_lines.specs.declared.line.Line.{Line}
use Rattle.kn_lines.specs.Lines.{IsWellFormed}
use Rattle.kn_rules.specs.Marks.{AssumedLiterals}
use Rattle.kn_rules.specs.States.{ProofState, start}
use Rattle.kn_rules.specs.Steps.{step}
use Rattle.kn_trim.specs.Used.{lean, lean_lines}
use Rattle.kn_trim.specs.Needed.{AreBehindHeader, is_end}
use Rattle.kn_trim.specs.Marking.{NameBefore, place_at, place_of}

-- a proof as far as it was read: the state behind its lines so far, and these with their used hints alone
pub record Read : Type 0 where
  pub state : ProofState
  pub assumed : AssumedLiterals
  pub lines : List Line

-- no literal is assumed between two lines
abbrev pub IsIdle : ProofState → AssumedLiterals → Type 0
IsIdle state assumed = assumed ≡ record { vars = state.vars; lits = [] }

-- one line more was read
pub record Takes (line : Line) (old new : Read) : Type 0 where
  pub steps : step old.state line ≡ Ok new.state
  pub lines : new.lines ≡ old.lines ++ lean old.state line ∷ []
  pub idle : IsIdle new.state new.assumed

-- the text is what stands behind the first of these lines
abbrev pub IsBehindFirst : List TextLine → List ℕ → Type 0
IsBehindFirst [] rest = Unit {0}
IsBehindFirst (first ∷ texts) rest = (number : ℕ) × (content_from number (lines_of rest) ≡ texts)

-- The lines of a proof with their used hints alone, and how many variables and ids the formula and they have: as
-- the walks that follow need them.
pub record IsLean (f : Problem) (bytes : List ℕ) (leans : List Line) (all_variables all_ids : ℕ) : Type 0 where
  pub lines : List Line
  pub spelled : AreBehindHeader (content_of bytes) lines
  pub lean : leans ≡ lean_lines (start f) lines
  pub variables : (place_at (place_of f) leans (length leans)).variables ≡ all_variables
  pub ids : (place_at (place_of f) leans (length leans)).ids ≡ all_ids
  pub named : NameBefore (place_of f) leans
  pub formed : AllByRecursion IsWellFormed leans
  pub ends : list_any is_end leans ≡ true
