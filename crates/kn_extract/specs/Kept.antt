-- What the types of this crate keep: a group that was taken, and an extraction.
use Rattle.std.specs.Prelude.{ℕ, ◌≡◌, ◌+◌, ◌≤◌, ◌↔◌, Bool, true, List, [], length, map, Option, Some, None}
use Rattle.std.specs.List.{AllByRecursion}
use Rattle.std.specs.List.Sorted.{IsStrictlyIncreasing}
use Rattle.kn_logic.specs.Literals.{Literal, places}
use Rattle.kn_logic.specs.Constraints.{Bounded, klause}
use Rattle.kn_logic.specs.Formulas.{Problem, IsFormula}
use Rattle.kn_logic.specs.Groups.{Gathered, IsGroup, IsPairGroup}
use Rattle.kn_diagram.specs.Diagrams.{is_true_by, function_of}
use Rattle.kn_quant.specs.Eliminations.{Eliminated, IsEliminationOf}
use Rattle.kn_verdict.specs.Cardinals.{IsCardinal}
use Rattle.kn_verdict.specs.Verdicts.{IsInRange}
use Rattle.kn_extract.specs.Extractions.{Found, IsExtraction}

-- A group that was taken: the places of its clauses in the formula, counted from 0, its klause, and its elimination
-- where it has auxiliary variables.
pub record Took : Type 0 where
  pub group : Gathered
  pub places : List ℕ
  pub klause : Bounded
  pub elimination : Option Eliminated

-- the same as a group that was found, with ids counted from 1
abbrev pub found_of : Took → Found
found_of t = record { group = t.group; ids = map (λ p. p + 1) t.places; bound = t.klause.bound }

-- a pair group, or a group with auxiliary variables that were eliminated
abbrev pub IsEliminated : Gathered → Option Eliminated → Type 0
IsEliminated g None = IsPairGroup g
IsEliminated g (Some e) = (g.aux ≡ [] → ⊥) × IsEliminationOf g e

pub record IsTaken (t : Took) : Type 0 where
  pub group : IsGroup t.group
  pub ascending : IsStrictlyIncreasing t.places
  pub each : length t.places ≡ length t.group.taken
  pub klause : t.klause ≡ klause t.klause.bound t.group.border
  pub range : IsInRange t.group t.klause.bound
  pub cardinal : IsCardinal t.group t.klause.bound
  pub elimination : IsEliminated t.group t.elimination

-- The result of an elimination says "at least so many of these literals".
abbrev pub IsCountOf : Eliminated → ℕ → List Literal → Type 0
IsCountOf e bound lits = (v : ℕ → Bool) → (function_of e.table e.result v ≡ true) ↔ (bound ≤ places (is_true_by v) lits)

-- the formula, what remains of it, and the groups that were taken in between
pub record Extracted : Type 0 where
  pub original : Problem
  pub formula : Problem
  pub taken : List Took

pub record IsExtracted (e : Extracted) : Type 0 where
  pub original : IsFormula e.original
  pub formula : IsFormula e.formula
  pub taken : AllByRecursion IsTaken e.taken
  pub extraction : IsExtraction e.original (map found_of e.taken) e.formula
