-- What `check` answers of two files.
use Rattle.std.specs.Prelude.{ℕ, List, Option, None}
use Rattle.kn_logic.specs.Formulas.{Problem, IsUnsatisfiable}
use Rattle.kn_format.specs.Grammar.{Spells, SpellsNone}
use Rattle.kn_format.specs.Faults.{IsFirstFault, refusal}
use Rattle.kn_rules.specs.Proofs.{IsProof, IsFirstWrong, fault}
use Rattle.kn_tool.specs.declared.answer.Which.TheVariants.{Proof}
use Rattle.kn_tool.specs.declared.answer.Answer.{Answer}
use Rattle.kn_tool.specs.declared.answer.Answer.TheVariants.{Verified, NotVerified, Refused, NoMemory}
use Rattle.kn_tool.specs.Answers.{own_text}
use Rattle.kn_tool.specs.Changes.{Change, Source, Untouched, GivesAll}
use Rattle.kn_tool.specs.Files.{Accepts, UnreadRow, FormulaRow}

-- The file of the proof was read whole, and is an accepted proof for the formula, which has no model.
pub record Proves (proof : Change Source) (f : Problem) : Type 0 where
  pub text : List ℕ
  pub whole : GivesAll proof text
  pub accepted : IsProof f text
  pub refuted : IsUnsatisfiable f

-- It was read whole, and is no proof for the formula; this is the first place at which it is wrong.
pub record Fails (proof : Change Source) (f : Problem) (line why : ℕ) : Type 0 where
  pub text : List ℕ
  pub whole : GivesAll proof text
  pub wrong : IsFirstWrong f text (fault line why)
  pub none : IsProof f text → ⊥

-- the rows of a formula
pub data CheckedRow (proof : Change Source) (f : Problem) : Answer → Option (List ℕ) → Type 0 where
  verified : Proves proof f → CheckedRow proof f Verified (own_text Verified)
  not_verified : {line why : ℕ} → Fails proof f line why → CheckedRow proof f (NotVerified line why) (own_text (NotVerified line why))
  unread : {answer : Answer} {told : Option (List ℕ)} → UnreadRow Proof proof answer told → CheckedRow proof f answer told
  no_memory : CheckedRow proof f NoMemory None

abbrev pub CheckRow : Change Source → Change Source → Answer → Option (List ℕ) → Type 0
CheckRow formula proof = FormulaRow formula (Untouched proof) (CheckedRow proof)

-- Both files were read whole, and the second is an accepted proof for the formula that the first
-- spells, which has no model.
abbrev pub Verifies : Change Source → Change Source → Type 0
Verifies formula proof = (f : Problem) × Accepts formula f × Proves proof f

-- the headline
abbrev pub CheckHeadline : Change Source → Change Source → Answer → Type 0
CheckHeadline formula proof Verified = Verifies formula proof
CheckHeadline formula proof answer = Unit {0}

-- What `check` answers of two texts: an accepted file has its verdict, any other its first fault, unless memory
-- is short.
abbrev pub Decides : List ℕ → List ℕ → Answer → Type 0
Decides text more Verified = (f : Problem) × Spells text f × IsProof f more
Decides text more (NotVerified line why) = (f : Problem) × Spells text f × IsFirstWrong f more (fault line why)
Decides text more (Refused line why) = IsFirstFault text (refusal line why) × SpellsNone text
Decides text more NoMemory = Unit {0}
Decides text more answer = ⊥
