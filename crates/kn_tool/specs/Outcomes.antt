-- What each answer of the program says of the bytes that came in and went out, by the command that the words ask for.
use Rattle.std.specs.Prelude.{ℕ, ◌≡◌, List, Option, None, Some}
use Rattle.kn_bytes.specs.Outside.{Rose, Got, GotPrefix}
use Rattle.kn_tool.specs.declared.answer.Which.TheVariants.{Out}
use Rattle.kn_tool.specs.declared.answer.Answer.{Answer}
use Rattle.kn_tool.specs.declared.answer.Answer.TheVariants.{Usage, WriteFault}
use Rattle.kn_tool.specs.Words.{Asked, check, solve, extract, convert, trim, work, AsksFor}
use Rattle.kn_tool.specs.Answers.{usage_text}
use Rattle.kn_tool.specs.Changes.{Change, Source, Sink, IsSound, IsQuiet}
use Rattle.kn_tool.specs.Files.{Rows}
use Rattle.kn_tool.specs.Checks.{CheckRow, CheckHeadline, Decides}
use Rattle.kn_tool.specs.Solves.{SolveRow, SolveHeadline, Concludes}
use Rattle.kn_tool.specs.Extracts.{ExtractRow, ExtractHeadline, Extracted}
use Rattle.kn_tool.specs.Conversions.{ConvertRow, ConvertHeadline, Converts}
use Rattle.kn_tool.specs.Trims.{TrimRow, TrimHeadline, Shortened}
use Rattle.kn_tool.specs.Works.{WorkRow, WorkHeadline, Finishes}

-- The objects of a run but the sink of the answers. Each command speaks of those that it uses.
pub record Files : Type 0 where
  pub formula : Change Source
  pub proof_in : Change Source
  pub proof_out : Change Sink

abbrev pub files_change : Change Source → Change Source → Change Sink → Files
files_change formula proof_in proof_out = record { formula = formula; proof_in = proof_in; proof_out = proof_out }

-- The rows of a command. Words that ask for none have the usage line.
abbrev pub RowOf : Option Asked → Files → Answer → Option (List ℕ) → Type 0
RowOf None files answer told = (answer ≡ Usage) × (told ≡ Some usage_text)
RowOf (Some (check formula proof)) files answer told = CheckRow files.formula files.proof_in answer told
RowOf (Some (solve formula proof conflicts forget)) files answer told = SolveRow conflicts forget files.formula files.proof_out answer told
RowOf (Some (extract formula)) files answer told = ExtractRow files.formula answer told
RowOf (Some (convert formula)) files answer told = ConvertRow files.formula answer told
RowOf (Some (trim formula proof)) files answer told = TrimRow files.formula files.proof_in answer told
RowOf (Some (work blocks)) files answer told = WorkRow blocks files.proof_out answer told

-- What stands on the sink of the answers: the text of the answer; nothing, where it has none; where writing
-- failed, a prefix of the text of an answer that would have been right.
pub data Told (row : Rows) (out : Change Sink) : Answer → Type 0 where
  whole : {answer : Answer} (text : List ℕ) → row answer (Some text) → Got out.old.written out.new.written text → Told row out answer
  silent : {answer : Answer} → row answer None → out.new.written ≡ out.old.written → Told row out answer
  cut : (meant : Answer) (text : List ℕ) → row meant (Some text) → Rose out.old.faults out.new.faults
      → GotPrefix out.old.written out.new.written text → Told row out (WriteFault Out)

-- The words ask for a command, or for none, and the answer is told by its rows.
abbrev pub Tells : List (List ℕ) → Files → Change Sink → Answer → Type 0
Tells words files out answer = (request : Option Asked) × AsksFor words request × Told (RowOf request files) out answer

-- The headline: what an answer of a command promises.
abbrev pub HeadlineOf : Asked → Files → Change Sink → Answer → Type 0
HeadlineOf (check formula proof) files out answer = CheckHeadline files.formula files.proof_in answer
HeadlineOf (solve formula proof conflicts forget) files out answer = SolveHeadline conflicts forget files.formula files.proof_out out answer
HeadlineOf (extract formula) files out answer = ExtractHeadline files.formula out answer
HeadlineOf (convert formula) files out answer = ConvertHeadline files.formula out answer
HeadlineOf (trim formula proof) files out answer = TrimHeadline files.formula files.proof_in out answer
HeadlineOf (work blocks) files out answer = WorkHeadline blocks files.proof_out out answer

-- What is answered where nothing is in the way: no call on an object that the command uses fails, and its sources tell
-- what they have.
abbrev pub CompleteOf : Asked → Files → Change Sink → Answer → Type 0
CompleteOf (check formula proof) files out answer =
    (text : List ℕ) (more : List ℕ) → IsSound files.formula text → IsSound files.proof_in more → IsQuiet out → Decides text more answer
CompleteOf (solve formula proof conflicts forget) files out answer =
    (text : List ℕ) → IsSound files.formula text → IsQuiet files.proof_out → IsQuiet out → Concludes conflicts forget text answer
CompleteOf (extract formula) files out answer =
    (text : List ℕ) → IsSound files.formula text → IsQuiet out → Extracted text answer
CompleteOf (convert formula) files out answer =
    (text : List ℕ) → IsSound files.formula text → IsQuiet out → Converts text answer
CompleteOf (trim formula proof) files out answer =
    (text : List ℕ) (more : List ℕ) → IsSound files.formula text → IsSound files.proof_in more → IsQuiet out → Shortened text more answer
CompleteOf (work blocks) files out answer = IsQuiet files.proof_out → IsQuiet out → Finishes answer

-- the answers to words that ask for no command
abbrev pub AnswersUsage : Answer → Type 0
AnswersUsage Usage = Unit {0}
AnswersUsage (WriteFault Out) = Unit {0}
AnswersUsage answer = ⊥
