-- The opening of a solver's proof: the klauses of an extraction, each in place of the clauses of its group. What is
-- searched behind it rests on the formula that remains, and on nothing else.
use Rattle.std.specs.Prelude.{ℕ, ◌≡◌, ◌+◌, ◌-◌, ◌≤◌, ◌⊎◌, ◌++◌, Bool, true, false, List, [], ◌∷◌, length, map, take, reverse, Option, Some, None}
use Rattle.std.specs.List.{AllByRecursion}
use Rattle.std.specs.List.Sorted.{IsPermutation}
use Rattle.kn_logic.specs.Constraints.{Bounded, klause, is_clause}
use Rattle.kn_lines.specs.declared.line.Line.{Line}
use Rattle.kn_lines.specs.declared.line.Line.TheVariants.{Define, Lemma, Klause, Delete}
use Rattle.kn_rules.specs.declared.given.Given.{Given}
use Rattle.kn_rules.specs.States.{ProofState}
use Rattle.kn_rules.specs.Searching.{is_searched, searched}
use Rattle.kn_store.specs.Stores.{Numbered, ids_of, constraints_of}
use Rattle.kn_quant.specs.Eliminations.{Eliminated}
use Rattle.kn_extract.specs.Kept.{Took, Extracted}

-- a line of an opening: a definition, a lemma that has a literal, a klause by its grid, or a deletion
abbrev pub IsOpeningLine : Line → Type 0
IsOpeningLine (Define x high low) = Unit {0}
IsOpeningLine (Lemma c hints) = c.lits ≡ [] → ⊥
IsOpeningLine (Klause c root unit) = Unit {0}
IsOpeningLine (Delete ids) = Unit {0}
IsOpeningLine other = ⊥

abbrev pub AreOpeningLines : List Line → Type 0
AreOpeningLines lines = AllByRecursion IsOpeningLine lines

-- One constraint is the other, or both are klauses with one bound and the same literals, in any order.
abbrev pub IsLike : Bounded → Bounded → Type 0
IsLike a b = (a ≡ b) ⊎ ((is_clause b ≡ false) × (a.guard ≡ b.guard) × (a.bound ≡ b.bound) × IsPermutation a.lits b.lits)

abbrev pub AreLike : List Bounded → List Bounded → Type 0
AreLike [] [] = Unit {0}
AreLike (c ∷ cs) (d ∷ ds) = IsLike c d × AreLike cs ds
AreLike cs ds = ⊥

-- A klause as it stands in the proof, and in the engine: a group with auxiliary variables has its border in the order
-- of its diagrams, which descends.
abbrev pub klause_by : Option Eliminated → Bounded → Bounded
klause_by None c = c
klause_by (Some e) c = klause c.bound (reverse c.lits)

abbrev pub klause_in_proof : Took → Bounded
klause_in_proof t = klause_by t.elimination t.klause

-- the constraints that a search begins with: those that no group took, then the klauses
abbrev pub begun_with : Extracted → List Bounded
begun_with e = take (length e.formula.constraints - length e.taken) e.formula.constraints ++ map klause_in_proof e.taken

-- the live constraints that a search rests on, each with its id
abbrev pub numbered_before : Bool → ℕ → Option Bounded → List Numbered → List Numbered
numbered_before true id (Some c) more = record { id = id; constraint = c } ∷ more
numbered_before wanted id live more = more

abbrev pub live_behind : ℕ → List Given → List Numbered
live_behind last [] = []
live_behind last (entry ∷ given) = numbered_before (is_searched entry.origin) (last + 1) entry.live (live_behind (last + 1) given)

-- What an opening leaves: a search rests on these constraints, under these ids, in the order of the formula that
-- remains. Nothing is refuted.
pub record IsOpened (e : Extracted) (s : ProofState) (ids : List ℕ) : Type 0 where
  pub ids_are : ids_of (live_behind 0 s.given) ≡ ids
  pub constraints : constraints_of (live_behind 0 s.given) ≡ begun_with e
  pub like : AreLike (searched s.given) e.formula.constraints
  pub vars : e.original.vars ≤ s.vars
  pub refuted : s.refuted ≡ false
