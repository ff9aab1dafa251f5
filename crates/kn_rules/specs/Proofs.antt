-- Whole proofs: the lines of a text that are neither blank nor comments, the first of which is the
-- header, each of the others stepping from the state before it.
use Rattle.std.specs.Prelude.{ℕ, ◌≡◌, ◌⊎◌, true, false, List, [], ◌∷◌, length, Ok, Err}
use Rattle.kn_logic.specs.Formulas.{Problem}
use Rattle.kn_text.specs.Lines.{Line as TextLine, content_of, lines_of}
use Rattle.kn_lines.specs.Lines.{SpellsWords}
use Rattle.kn_lines.specs.declared.line.Line.{Line}
use Rattle.kn_lines.specs.declared.line.Line.TheVariants.{Header}
use Rattle.kn_rules.specs.States.{ProofState, start}
use Rattle.kn_rules.specs.Causes.{wrong_header, bad_line, not_refuted}
use Rattle.kn_rules.specs.Steps.{step}

-- the line of the text is one of a proof, and steps from the one state to the other
abbrev pub Makes : ProofState → TextLine → ProofState → Type 0
Makes old text new = (line : Line) × SpellsWords text.words line × (step old line ≡ Ok new)

-- the lines step, one after another
abbrev pub Runs : ProofState → List TextLine → ProofState → Type 0
Runs old [] new = old ≡ new
Runs old (text ∷ texts) new = (next : ProofState) × Makes old text next × Runs next texts new

-- the line is the header of a proof for this formula
abbrev pub IsHeader : Problem → TextLine → Type 0
IsHeader f text = SpellsWords text.words (Header f.vars (length f.constraints))

abbrev pub StepsThrough : Problem → List TextLine → ProofState → Type 0
StepsThrough f [] last = ⊥
StepsThrough f (text ∷ texts) last = IsHeader f text × Runs (start f) texts last

-- the text is a header and lines that step, and they lead to this state
abbrev pub Steps : Problem → List ℕ → ProofState → Type 0
Steps f bytes last = StepsThrough f (content_of bytes) last

-- An accepted proof: all lines step, and one of them gave the clause without literals.
abbrev pub IsProof : Problem → List ℕ → Type 0
IsProof f bytes = (last : ProofState) × Steps f bytes last × (last.refuted ≡ true)

-- a place of a text and the cause that speaks of it
pub record Fault : Type 0 where
  pub line : ℕ
  pub cause : ℕ

abbrev pub fault : ℕ → ℕ → Fault
fault line cause = record { line = line; cause = cause }

-- The first line that is none of a proof's or does not step, and its cause; or the number of lines, where all step and
-- none gave the clause without literals.
abbrev pub WrongFrom : ProofState → List TextLine → ℕ → Fault → Type 0
WrongFrom s [] count found = (s.refuted ≡ false) × (found ≡ fault count not_refuted)
WrongFrom s (text ∷ texts) count found =
    (((line : Line) → SpellsWords text.words line → ⊥) × (found ≡ fault text.number bad_line))
    ⊎ ((line : Line) × SpellsWords text.words line × (step s line ≡ Err found.cause) × (found.line ≡ text.number))
    ⊎ ((next : ProofState) × Makes s text next × WrongFrom next texts count found)

-- the same, where the first line is to be the header with the numbers of the formula
abbrev pub WrongIn : Problem → List TextLine → ℕ → Fault → Type 0
WrongIn f [] count found = found ≡ fault count not_refuted
WrongIn f (text ∷ texts) count found =
    ((IsHeader f text → ⊥) × (found ≡ fault text.number wrong_header))
    ⊎ (IsHeader f text × WrongFrom (start f) texts count found)

-- the first fault of a text that is no proof for the formula
abbrev pub IsFirstWrong : Problem → List ℕ → Fault → Type 0
IsFirstWrong f bytes found = WrongIn f (content_of bytes) (length (lines_of bytes)) found
