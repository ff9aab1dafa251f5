-- What the checker of whole proofs answers.
use Rattle.std.specs.Prelude.{ℕ, ◌≡◌, true, false, List, [], ◌∷◌, Result, Ok, Err}
use Rattle.kn_text.specs.Lines.{Line as TextLine, is_skipped, unless_skipped, words_of}
use Rattle.kn_rules.specs.declared.whole.Checked.{Checked}
use Rattle.kn_rules.specs.declared.whole.Checked.TheVariants.{Verified, NotVerified}
use Rattle.kn_rules.specs.declared.checker.FeedError.{FeedError}
use Rattle.kn_rules.specs.declared.checker.FeedError.TheVariants.{Wrong, Memory}
use Rattle.kn_rules.specs.States.{ProofState}
use Rattle.kn_rules.specs.Proofs.{Runs, Fault, fault, WrongFrom}

-- what is claimed where the proof is accepted
abbrev pub IfVerified : Checked → Type 0 → Type 0
IfVerified Verified claim = claim
IfVerified (NotVerified line why) claim = Unit {0}

-- what is claimed of the fault that is told
abbrev pub IfFault : Checked → (Fault → Type 0) → Type 0
IfFault Verified claim = Unit {0}
IfFault (NotVerified line why) claim = claim (fault line why)

-- the lines step from this state to one that is refuted
abbrev pub EndsRefuted : ProofState → List TextLine → Type 0
EndsRefuted s texts = (last : ProofState) × Runs s texts last × (last.refuted ≡ true)

-- Whatever lines come behind one with these words, going on from the new state is going on from the old
-- one with this line.
pub record LeadsTo (words : List (List ℕ)) (old new : ProofState) : Type 0 where
  pub proof : (number : ℕ) (texts : List TextLine) → EndsRefuted new texts → EndsRefuted old (unless_skipped number words texts)
  pub wrong : (number : ℕ) (texts : List TextLine) (count : ℕ) (found : Fault) → WrongFrom new texts count found → WrongFrom old (unless_skipped number words texts) count found

-- a line with these words, whatever lines come behind it, is the first wrong one
abbrev pub IsWrongNext : List (List ℕ) → ProofState → ℕ → Type 0
IsWrongNext words s why = (number : ℕ) (texts : List TextLine) (count : ℕ) → WrongFrom s (unless_skipped number words texts) count (fault number why)

abbrev pub Stops : FeedError → List (List ℕ) → ProofState → Type 0
Stops (Wrong why) words s = IsWrongNext words s why
Stops Memory words s = Unit {0}

-- what a line of a text makes of a state
abbrev pub Takes : {T : Type 0} → Result T FeedError → List (List ℕ) → ProofState → ProofState → Type 0
Takes (Ok _) words old new = LeadsTo words old new
Takes (Err e) words old new = Stops e words old

-- the first of the lines is not skipped
abbrev pub BeginsFilled : List (List ℕ) → Type 0
BeginsFilled [] = Unit {0}
BeginsFilled (line ∷ lines) = is_skipped (words_of line) ≡ false
