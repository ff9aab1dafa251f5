-- Arms under a list of literals that are taken to be true, and what hints make of clauses of arms. An arm is
-- a constant or a literal. Said so that no case has to be told apart: a run that has ended in conflict has
-- every arm, a constant that is true is always had, and one that is false only after a conflict.
use Rattle.std.specs.Prelude.{ℕ, ◌≡◌, ◌∷◌, ◌⊎◌, Bool, true, false, ◌||◌, List, [], Option, Some, None, option_and_then}
use Rattle.std.specs.List.{AllByRecursion, list_any}
use Rattle.kn_logic.specs.Literals.{Literal, negated, has}
use Rattle.kn_logic.specs.Constraints.{Bounded}
use Rattle.kn_logic.specs.Propagation.{hint_run, IsConsistent}
use Rattle.kn_lines.specs.declared.line.Arm.{Arm}
use Rattle.kn_lines.specs.declared.line.Arm.TheVariants as arm
use Rattle.kn_rules.specs.declared.given.Given.{Given}
use Rattle.kn_rules.specs.Grids.{is_true_arm}
use Rattle.kn_rules.specs.Steps.{opposite, hinted, is_known_arm}

-- the list has the arm
abbrev pub HasArm : List Literal → Arm → Type 0
HasArm trail arm.True = Unit {0}
HasArm trail arm.False = ⊥
HasArm trail (arm.Lit l) = has trail l ≡ true

-- the run has ended in conflict, or its list has the arm
abbrev pub Has : Option (List Literal) → Arm → Type 0
Has None a = Unit {0}
Has (Some trail) a = HasArm trail a

-- the run has ended in conflict, or no literal of its list stands there with its negation
abbrev pub IsSound : Option (List Literal) → Type 0
IsSound None = Unit {0}
IsSound (Some trail) = IsConsistent trail

-- the run goes on with further hints
abbrev pub run_on : Option (List Literal) → List Bounded → Option (List Literal)
run_on run cs = option_and_then (λ trail. hint_run trail cs) run

-- the arms are all false
abbrev pub AllRefuted : Option (List Literal) → List Arm → Type 0
AllRefuted run arms = AllByRecursion (λ a. Has run (opposite a)) arms

-- the arm stands at a place of the list, and those at all other places are false
abbrev pub IsLeft : Option (List Literal) → List Arm → Arm → Type 0
IsLeft run [] a = ⊥
IsLeft run (b ∷ bs) a = ((b ≡ a) × AllRefuted run bs) ⊎ (Has run (opposite b) × IsLeft run bs a)

-- The hints do what a clause of these arms does: the one that is left is had.
pub record Settles (cs : List Bounded) (arms : List Arm) : Type 0 where
  pub sound : (run : Option (List Literal)) → IsSound run → IsSound (run_on run cs)
  pub forces : (run : Option (List Literal)) (a : Arm) → IsSound run → IsLeft run arms a → Has (run_on run cs) a

-- The hints end in conflict wherever the arms are all false.
abbrev pub Refutes : List Bounded → List Arm → Type 0
Refutes cs arms = (run : Option (List Literal)) → IsSound run → AllRefuted run arms → run_on run cs ≡ None

abbrev pub has_true : List Arm → Bool
has_true arms = list_any is_true_arm arms

-- the literals of a clause of arms, none of which is true
abbrev pub literals_of : List Arm → List Literal
literals_of [] = []
literals_of (arm.Lit l ∷ arms) = l ∷ literals_of arms
literals_of (constant ∷ arms) = literals_of arms

-- whether a literal stands in the list before its negation
abbrev pub has_both : List Literal → Bool
has_both [] = false
has_both (l ∷ lits) = has lits (negated l) || has_both lits

-- Whether a clause of arms needs no line: it has a true constant, or a literal with its negation.
abbrev pub is_trivial : List Arm → Bool
is_trivial arms = has_true arms || has_both (literals_of arms)

-- The ids are live, and their constraints, run as hints, do what a clause of these arms does. So a clause that needs
-- no line is settled by no ids.
abbrev pub Settled : List Given → List ℕ → List Arm → Type 0
Settled given ids arms = (cs : List Bounded) × (hinted given ids ≡ Some cs) × Settles cs arms

-- The ids are live, and their constraints, run as hints, end in conflict wherever the arms are all false.
abbrev pub Refuted : List Given → List ℕ → List Arm → Type 0
Refuted given ids arms = (cs : List Bounded) × (hinted given ids ≡ Some cs) × Refutes cs arms

-- the variables of the arms are known
abbrev pub AreKnownArms : ℕ → List Arm → Type 0
AreKnownArms vars arms = AllByRecursion (λ a. is_known_arm vars a ≡ true) arms
