-- What `convert` answers of a file.
use Rattle.std.specs.Prelude.{ℕ, ◌≡◌, ◌≤◌, ◌<◌, ◌⊎◌, ◌++◌, Bool, List, take, Option, None, Some}
use Rattle.kn_bytes.specs.Outside.{Got}
use Rattle.kn_logic.specs.Formulas.{Problem, Satisfies}
use Rattle.kn_format.specs.Texts.{cnf_text}
use Rattle.kn_format.specs.Grammar.{Spells, SpellsNone}
use Rattle.kn_format.specs.Faults.{IsFirstFault, refusal}
use Rattle.kn_counter.specs.Counters.{counted, most_counted}
use Rattle.kn_tool.specs.declared.answer.Answer.{Answer}
use Rattle.kn_tool.specs.declared.answer.Answer.TheVariants.{Done, Refused, NoMemory}
use Rattle.kn_tool.specs.Answers.{own_text}
use Rattle.kn_tool.specs.Changes.{Change, Source, Sink}
use Rattle.kn_tool.specs.Files.{Accepts, FormulaRow}

abbrev pub IsCountable : Problem → Type 0
IsCountable f = (counted f).vars ≤ most_counted

abbrev pub IsTooLarge : Problem → Type 0
IsTooLarge f = most_counted < (counted f).vars

-- two formulas have the same models, as far as the variables of the first go
pub record HaveSameModels (f g : Problem) : Type 0 where
  pub extended : (values : List Bool) → Satisfies values f → (more : List Bool) × Satisfies (values ++ more) g
  pub cut : (values : List Bool) → Satisfies values g → Satisfies (take f.vars values) f

-- The rows of a formula. One that needs too many variables has cause 12, of no line.
pub data ConvertedRow (f : Problem) : Answer → Option (List ℕ) → Type 0 where
  done : IsCountable f → HaveSameModels f (counted f) → ConvertedRow f Done (Some (cnf_text (counted f)))
  too_large : IsTooLarge f → ConvertedRow f (Refused 0 12) (own_text (Refused 0 12))
  no_memory : ConvertedRow f NoMemory None

abbrev pub ConvertRow : Change Source → Answer → Option (List ℕ) → Type 0
ConvertRow formula = FormulaRow formula (Unit {0}) ConvertedRow

-- The file spells a formula, and clauses with the same models were written.
abbrev pub PrintsClauses : Change Source → Change Sink → Type 0
PrintsClauses formula out =
    (f : Problem) × Accepts formula f × Got out.old.written out.new.written (cnf_text (counted f)) × HaveSameModels f (counted f)

-- the headline
abbrev pub ConvertHeadline : Change Source → Change Sink → Answer → Type 0
ConvertHeadline formula out Done = PrintsClauses formula out
ConvertHeadline formula out answer = Unit {0}

-- What `convert` answers of a text: an accepted file is converted where it is within the limit, and has cause 12 where
-- it is not; any other has its first fault; unless memory is short.
abbrev pub Converts : List ℕ → Answer → Type 0
Converts text Done = (f : Problem) × Spells text f × IsCountable f
Converts text (Refused line why) =
    (IsFirstFault text (refusal line why) × SpellsNone text) ⊎ ((line ≡ 0) × (why ≡ 12) × ((f : Problem) × Spells text f × IsTooLarge f))
Converts text NoMemory = Unit {0}
Converts text answer = ⊥
