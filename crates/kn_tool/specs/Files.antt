-- What was read of the file of a formula, and what is answered where there is none.
use Rattle.std.specs.Prelude.{ℕ, List, Option, None}
use Rattle.kn_logic.specs.Formulas.{Problem}
use Rattle.kn_format.specs.Grammar.{Spells, SpellsNone}
use Rattle.kn_format.specs.Faults.{IsFirstFault, refusal}
use Rattle.kn_tool.specs.declared.answer.Which.{Which}
use Rattle.kn_tool.specs.declared.answer.Which.TheVariants.{Formula}
use Rattle.kn_tool.specs.declared.answer.Answer.{Answer}
use Rattle.kn_tool.specs.declared.answer.Answer.TheVariants.{Refused, TooLong, ReadFault, NoMemory}
use Rattle.kn_tool.specs.Answers.{own_text}
use Rattle.kn_tool.specs.Changes.{Change, Source, GivesAll, ExceedsLimit, FaultsIn}

-- The file of the formula was read whole, and spells this formula.
pub record Accepts (s : Change Source) (f : Problem) : Type 0 where
  pub text : List ℕ
  pub whole : GivesAll s text
  pub spells : Spells text f

-- The file of the formula was read whole, and spells none; this is the first fault.
pub record Rejects (s : Change Source) (line why : ℕ) : Type 0 where
  pub text : List ℕ
  pub whole : GivesAll s text
  pub first : IsFirstFault text (refusal line why)
  pub none : SpellsNone text

-- A table of rows says which answer comes when, and with which text: none where nothing is told.
abbrev pub Rows : Type 1
Rows = Answer → Option (List ℕ) → Type 0

-- the rows of a source that was not read whole
pub data UnreadRow (which : Which) (s : Change Source) : Answer → Option (List ℕ) → Type 0 where
  too_long : ExceedsLimit s → UnreadRow which s (TooLong which) (own_text (TooLong which))
  fails : FaultsIn s → UnreadRow which s (ReadFault which) (own_text (ReadFault which))
  no_memory : UnreadRow which s NoMemory None

-- the rows of a file that gave no formula
pub data NoFormulaRow (s : Change Source) : Answer → Option (List ℕ) → Type 0 where
  unread : {answer : Answer} {told : Option (List ℕ)} → UnreadRow Formula s answer told → NoFormulaRow s answer told
  refused : {line why : ℕ} → Rejects s line why → NoFormulaRow s (Refused line why) (own_text (Refused line why))

-- The rows of a command that reads a formula: those of the formula that the file spells; or those of a file that gave
-- none, with what stays as it was.
pub data FormulaRow (s : Change Source) (Stays : Type 0) (row : Problem → Rows) : Answer → Option (List ℕ) → Type 0 where
  accepted : {answer : Answer} {told : Option (List ℕ)} (f : Problem) → Accepts s f → row f answer told → FormulaRow s Stays row answer told
  no_formula : {answer : Answer} {told : Option (List ℕ)} → NoFormulaRow s answer told → Stays → FormulaRow s Stays row answer told
