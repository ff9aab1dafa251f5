-- What the proof that `solve` writes is made of: an opening, and behind it the lines of a search.
use Rattle.std.specs.Prelude.{ℕ, ◌≡◌, ◌++◌, ◌∷◌, List, [], Ok}
use Rattle.kn_logic.specs.Literals.{AreKnown}
use Rattle.kn_logic.specs.Formulas.{Problem}
use Rattle.kn_logic.specs.Newness.{IsNew}
use Rattle.kn_text.specs.Lines.{Line as TextLine, content_of}
use Rattle.kn_lines.specs.Lines.{SpellsWords}
use Rattle.kn_lines.specs.declared.line.Line.{Line}
use Rattle.kn_lines.specs.declared.line.Line.TheVariants.{Learned}
use Rattle.kn_rules.specs.States.{ProofState, start}
use Rattle.kn_rules.specs.Steps.{step}
use Rattle.kn_rules.specs.Searching.{searched}
use Rattle.kn_log.specs.Logs.{header_of}
use Rattle.kn_extract.specs.Extractions.{Found}
use Rattle.kn_solve.specs.Solutions as solutions

-- the lines of a text spell these lines of a proof, one after another
abbrev pub AreRead : List TextLine → List Line → Type 0
AreRead [] [] = Unit {0}
AreRead (text ∷ texts) (line ∷ lines) = SpellsWords text.words line × AreRead texts lines
AreRead texts lines = ⊥

-- the text is the header of a proof for the formula, and these lines
abbrev pub Reads : Problem → List ℕ → List Line → Type 0
Reads f bytes lines = AreRead (content_of bytes) (header_of f ∷ lines)

-- The clause of a line that is a learned clause is over so many variables, and new in this state: for the constraints
-- of the file, the klauses and the learned clauses that are live.
abbrev pub IsNewLine : ℕ → ProofState → Line → Type 0
IsNewLine vars s (Learned c hints) = AreKnown vars c.lits × IsNew (searched s.given) c.lits
IsNewLine vars s other = Unit {0}

-- each learned clause is such, at its place
abbrev pub AreNew : ℕ → ProofState → List Line → Type 0
AreNew vars s [] = Unit {0}
AreNew vars s (line ∷ lines) = (next : ProofState) × (step s line ≡ Ok next) × IsNewLine vars s line × AreNew vars next lines

-- All lines step, and each learned clause is over the formula's variables and new at its place.
abbrev pub AllNew : Problem → List ℕ → Type 0
AllNew f bytes = (lines : List Line) × Reads f bytes lines × AreNew f.vars (start f) lines

-- The text is the proof of a solver that may forget learned clauses where so many are live. Its opening puts klauses in
-- place of the clauses that hid them: it is the lines before the first learned clause and the first lemma without
-- literals, whichever comes first. Behind it the constraints of the file and the klauses that are live are those of the
-- formula that remains of the extraction, equally many of each, the literals of a klause in any order. Then come only
-- lines that a search may log: learned clauses, deletions of learned clauses where enough are live, and at last perhaps
-- the lemma without literals; none of them rests on a definition, a lemma or an unfolded klause of the opening.
pub record IsSolverProof (f : Problem) (forget : ℕ) (bytes : List ℕ) : Type 0 where
  pub found : List Found
  pub opening : List Line
  pub body : List Line
  pub last : ProofState
  pub reads : Reads f bytes (opening ++ body)
  pub shape : solutions.IsSolverProof f forget found opening body last
