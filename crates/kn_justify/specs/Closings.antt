-- How a justification ends: the klause stands in place of the clauses that it was made of.
use Rattle.std.specs.Prelude.{ℕ, ◌≡◌, ◌+◌, ◌≤◌, ◌++◌, List, [], ◌∷◌, length, Some, IsSome, Ok}
use Rattle.std.specs.List.{AllByRecursion}
use Rattle.kn_logic.specs.Constraints.{Bounded}
use Rattle.kn_lines.specs.declared.line.Line.{Line}
use Rattle.kn_lines.specs.declared.line.Line.TheVariants.{Klause, Delete}
use Rattle.kn_rules.specs.declared.given.Given.{Given}
use Rattle.kn_rules.specs.declared.given.Origin.TheVariants as origin
use Rattle.kn_rules.specs.States.{ProofState, live_at}
use Rattle.kn_rules.specs.Steps.{deleted}
use Rattle.kn_justify.specs.Growth.{ArePlain, AreHelp}

-- the ids are live
abbrev pub AreLive : List Given → List ℕ → Type 0
AreLive given ids = AllByRecursion (λ id. IsSome (live_at given id)) ids

-- the line of the klause, then the deletion of these ids; or the first alone, or none of them yet
abbrev pub AreClosing : Bounded → List ℕ → List Line → Type 0
AreClosing c ids [] = Unit {0}
AreClosing c ids (Klause k root unit ∷ []) = k ≡ c
AreClosing c ids (Klause k root unit ∷ Delete gone ∷ []) = (k ≡ c) × (gone ≡ ids)
AreClosing c ids other = ⊥

-- The lines of a justification: definitions and lemmas that have a literal, and then those that close it. After an
-- error some of the last ones are not there.
pub record AreJustifying (c : Bounded) (ids : List ℕ) (lines : List Line) : Type 0 where
  pub front : List Line
  pub back : List Line
  pub both : lines ≡ front ++ back
  pub plain : ArePlain front
  pub closing : AreClosing c ids back

-- the entry of a klause
abbrev pub klause_entry : Bounded → Given
klause_entry c = record { origin = origin.Klause; live = Some c }

-- What a justification makes of a state: definitions and lemmas have come, and behind them the klause, under this id;
-- then these ids were deleted. All other ids stand for what they stood for, and nothing was refuted.
pub record Replaces (old new : ProofState) (ids : List ℕ) (c : Bounded) (id : ℕ) : Type 0 where
  pub vars : old.vars ≤ new.vars
  pub help : List Given
  pub are_help : AreHelp help
  pub id_is : id ≡ length (old.given ++ help) + 1
  pub given : deleted ((old.given ++ help) ++ klause_entry c ∷ []) ids ≡ Ok new.given
  pub refuted : new.refuted ≡ old.refuted
