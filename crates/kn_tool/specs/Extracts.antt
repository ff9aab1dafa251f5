-- What `extract` answers of a file.
use Rattle.std.specs.Prelude.{ℕ, ◌≡◌, Bool, List, Option, None, Some}
use Rattle.kn_bytes.specs.Outside.{Got}
use Rattle.kn_logic.specs.Formulas.{Problem, Satisfies}
use Rattle.kn_format.specs.Grammar.{Spells, SpellsNone}
use Rattle.kn_format.specs.Faults.{IsFirstFault, refusal}
use Rattle.kn_extract.specs.Extractions.{Found, IsExtraction, AgreeOff, listed}
use Rattle.kn_extract.specs.Texts.{extraction_text}
use Rattle.kn_tool.specs.declared.answer.Answer.{Answer}
use Rattle.kn_tool.specs.declared.answer.Answer.TheVariants.{Done, Refused, NoMemory}
use Rattle.kn_tool.specs.Changes.{Change, Source, Sink}
use Rattle.kn_tool.specs.Files.{Accepts, FormulaRow}

-- The formula that remains holds in every model of the first, and each of its models becomes one of the first by a
-- change of listed variables alone.
pub record KeepsModels (f last : Problem) (found : List Found) : Type 0 where
  pub onward : (values : List Bool) → Satisfies values f → Satisfies values last
  pub back : (values : List Bool) → Satisfies values last → (other : List Bool) × Satisfies other f × AgreeOff (listed found) values other

-- The text is that of the formula's extraction, and spells the formula that remains.
pub record Extracts (f : Problem) (text : List ℕ) : Type 0 where
  pub found : List Found
  pub last : Problem
  pub extraction : IsExtraction f found last
  pub text_is : text ≡ extraction_text found last
  pub spells : Spells text last
  pub keeps : KeepsModels f last found

-- the rows of a formula
pub data ExtractedRow (f : Problem) : Answer → Option (List ℕ) → Type 0 where
  done : (text : List ℕ) → Extracts f text → ExtractedRow f Done (Some text)
  no_memory : ExtractedRow f NoMemory None

abbrev pub ExtractRow : Change Source → Answer → Option (List ℕ) → Type 0
ExtractRow formula = FormulaRow formula (Unit {0}) ExtractedRow

-- The file spells a formula, and the text of its extraction was written.
abbrev pub PrintsExtraction : Change Source → Change Sink → Type 0
PrintsExtraction formula out =
    (f : Problem) × (text : List ℕ) × Accepts formula f × Extracts f text × Got out.old.written out.new.written text

-- the headline
abbrev pub ExtractHeadline : Change Source → Change Sink → Answer → Type 0
ExtractHeadline formula out Done = PrintsExtraction formula out
ExtractHeadline formula out answer = Unit {0}

-- What `extract` answers of a text: an accepted file is done, any other has its first fault, unless memory is short.
abbrev pub Extracted : List ℕ → Answer → Type 0
Extracted text Done = (f : Problem) × Spells text f
Extracted text (Refused line why) = IsFirstFault text (refusal line why) × SpellsNone text
Extracted text NoMemory = Unit {0}
Extracted text answer = ⊥
