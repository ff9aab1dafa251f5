-- The state of a proof: what its lines so far have given.
use Rattle.std.specs.Prelude.{ℕ, ◌≡◌, ◌≤◌, ◌+◌, ◌-◌, ◌==◌, nat_lt, Bool, false, if◌then◌else◌, List, [], length, map, Option, Some, None, option_and_then, slice_get, IfSome}
use Rattle.std.specs.List.{AllByRecursion}
use Rattle.kn_logic.specs.Literals.{IsKnown}
use Rattle.kn_logic.specs.Constraints.{Bounded, IsWithin}
use Rattle.kn_logic.specs.Formulas.{Problem}
use Rattle.kn_lines.specs.declared.line.Arm.{Arm}
use Rattle.kn_lines.specs.declared.line.Arm.TheVariants as arm
use Rattle.kn_rules.specs.Marks.{AssumedLiterals}
use Rattle.kn_rules.specs.declared.definition.Definition.{Definition}
use Rattle.kn_rules.specs.declared.given.Given.{Given}
use Rattle.kn_rules.specs.declared.given.Origin.TheVariants.{File}

-- An id stands for a `Given`: what gave it, and its constraint, or none where it is deleted.
--
-- The variables from 1 to `vars` are known. The definitions stand in the order of their variables, which
-- come behind those of the file. What the ids stand for is listed in their order, that of id 1 first.
-- A proof is refuted once a lemma or a learned clause without literals was given.
pub record ProofState : Type 0 where
  pub vars : ℕ
  pub definitions : List Definition
  pub given : List Given
  pub refuted : Bool

abbrev pub from_file : Bounded → Given
from_file c = record { origin = File; live = Some c }

-- the state behind the header
abbrev pub start : Problem → ProofState
start f = record { vars = f.vars; definitions = []; given = map from_file f.constraints; refuted = false }

-- the definition of a variable; none where it is one of the file's, or not known
abbrev pub defined_among : List Definition → ℕ → ℕ → Option Definition
defined_among definitions base variable = if nat_lt base variable then slice_get definitions (variable - base - 1) else None

-- the definitions alone, of the variables behind the first ones, which are `base` many
pub record Defined : Type 0 where
  pub base : ℕ
  pub list : List Definition

abbrev pub looked_up : Defined → ℕ → Option Definition
looked_up d variable = defined_among d.list d.base variable

abbrev pub definition_of : ProofState → ℕ → Option Definition
definition_of s variable = defined_among s.definitions (s.vars - length s.definitions) variable

-- what stands under an id; none where it was not given
abbrev pub given_at : List Given → ℕ → Option Given
given_at given id = if id == 0 then None else slice_get given (id - 1)

-- the constraint of a live id; none where the id was not given or is deleted
abbrev pub live_at : List Given → ℕ → Option Bounded
live_at given id = option_and_then (λ entry. entry.live) (given_at given id)

abbrev pub IsArmWithin : ℕ → Arm → Type 0
IsArmWithin vars arm.True = Unit {0}
IsArmWithin vars arm.False = Unit {0}
IsArmWithin vars (arm.Lit l) = IsKnown vars l

-- the test and the arms are over the variables from 1 to this number
pub record IsDefinedWithin (vars : ℕ) (d : Definition) : Type 0 where
  pub test : IsKnown vars d.test
  pub high : IsArmWithin vars d.high
  pub low : IsArmWithin vars d.low

-- Each live constraint is over the variables from 1 to this number.
abbrev pub IsLiveWithin : ℕ → Given → Type 0
IsLiveWithin vars entry = IfSome entry.live (IsWithin vars)

abbrev pub AreLiveWithin : ℕ → List Given → Type 0
AreLiveWithin vars given = AllByRecursion (IsLiveWithin vars) given

-- What a checker keeps between two lines: its constraints are over its variables, no literal is assumed in a
-- list that is over these variables at least, and each variable behind those of the file has its definition.
pub record IsReady (vars : ℕ) (defined : Defined) (given : List Given) (assumed : AssumedLiterals) : Type 0 where
  pub empty : assumed.lits ≡ []
  pub room : vars ≤ assumed.vars
  pub within : AreLiveWithin vars given
  pub count : defined.base + length defined.list ≡ vars
