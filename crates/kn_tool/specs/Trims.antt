-- What `trim` answers of two files.
use Rattle.std.specs.Prelude.{ℕ, List, Option, None, Some}
use Rattle.kn_bytes.specs.Outside.{Got}
use Rattle.kn_logic.specs.Formulas.{Problem}
use Rattle.kn_format.specs.Grammar.{Spells, SpellsNone}
use Rattle.kn_format.specs.Faults.{IsFirstFault, refusal}
use Rattle.kn_rules.specs.Proofs.{IsProof, IsFirstWrong, fault}
use Rattle.kn_trim.specs.Needed.{IsTrimmed}
use Rattle.kn_tool.specs.declared.answer.Which.TheVariants.{Proof}
use Rattle.kn_tool.specs.declared.answer.Answer.{Answer}
use Rattle.kn_tool.specs.declared.answer.Answer.TheVariants.{Done, NotVerified, Refused, NoMemory}
use Rattle.kn_tool.specs.Answers.{own_text}
use Rattle.kn_tool.specs.Changes.{Change, Source, Sink, Untouched, GivesAll}
use Rattle.kn_tool.specs.Files.{Accepts, UnreadRow, FormulaRow}
use Rattle.kn_tool.specs.Checks.{Fails}

-- The file of the proof was read whole, and is an accepted proof for the formula; its trimmed text is one too.
pub record Shortens (proof : Change Source) (f : Problem) (trimmed : List ℕ) : Type 0 where
  pub text : List ℕ
  pub whole : GivesAll proof text
  pub accepted : IsProof f text
  pub trims : IsTrimmed f text trimmed
  pub again : IsProof f trimmed

-- the rows of a formula
pub data TrimmedRow (proof : Change Source) (f : Problem) : Answer → Option (List ℕ) → Type 0 where
  done : (trimmed : List ℕ) → Shortens proof f trimmed → TrimmedRow proof f Done (Some trimmed)
  not_verified : {line why : ℕ} → Fails proof f line why → TrimmedRow proof f (NotVerified line why) (own_text (NotVerified line why))
  unread : {answer : Answer} {told : Option (List ℕ)} → UnreadRow Proof proof answer told → TrimmedRow proof f answer told
  no_memory : TrimmedRow proof f NoMemory None

abbrev pub TrimRow : Change Source → Change Source → Answer → Option (List ℕ) → Type 0
TrimRow formula proof = FormulaRow formula (Untouched proof) (TrimmedRow proof)

-- The first file spells a formula, the second is an accepted proof for it, and its trimmed text was written.
abbrev pub PrintsTrimmed : Change Source → Change Source → Change Sink → Type 0
PrintsTrimmed formula proof out =
    (f : Problem) × (trimmed : List ℕ) × Accepts formula f × Shortens proof f trimmed × Got out.old.written out.new.written trimmed

-- the headline
abbrev pub TrimHeadline : Change Source → Change Source → Change Sink → Answer → Type 0
TrimHeadline formula proof out Done = PrintsTrimmed formula proof out
TrimHeadline formula proof out answer = Unit {0}

-- What `trim` answers of two texts: an accepted file and a proof of it are done, another text has its first wrong
-- line, and another file its first fault, unless memory is short.
abbrev pub Shortened : List ℕ → List ℕ → Answer → Type 0
Shortened text more Done = (f : Problem) × Spells text f × IsProof f more
Shortened text more (NotVerified line why) = (f : Problem) × Spells text f × IsFirstWrong f more (fault line why)
Shortened text more (Refused line why) = IsFirstFault text (refusal line why) × SpellsNone text
Shortened text more NoMemory = Unit {0}
Shortened text more answer = ⊥
