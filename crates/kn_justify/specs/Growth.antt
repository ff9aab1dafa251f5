-- What a justification adds to a proof before its klause: definitions, and lemmas that have a literal.
use Rattle.std.specs.Prelude.{ℕ, ◌≡◌, ◌≤◌, ◌++◌, List, [], Some}
use Rattle.std.specs.List.{AllByRecursion}
use Rattle.kn_lines.specs.declared.line.Line.{Line}
use Rattle.kn_lines.specs.declared.line.Line.TheVariants.{Define, Lemma}
use Rattle.kn_rules.specs.declared.definition.Definition.{Definition}
use Rattle.kn_rules.specs.declared.given.Given.{Given}
use Rattle.kn_rules.specs.declared.given.Origin.{Origin}
use Rattle.kn_rules.specs.declared.given.Origin.TheVariants as origin
use Rattle.kn_rules.specs.States.{ProofState, definition_of}

-- a definition, or a lemma that has a literal
abbrev pub IsPlain : Line → Type 0
IsPlain (Define x high low) = Unit {0}
IsPlain (Lemma c hints) = c.lits ≡ [] → ⊥
IsPlain other = ⊥

abbrev pub ArePlain : List Line → Type 0
ArePlain lines = AllByRecursion IsPlain lines

abbrev pub IsHelping : Origin → Type 0
IsHelping origin.Definition = Unit {0}
IsHelping origin.Lemma = Unit {0}
IsHelping other = ⊥

-- what definitions and lemmas gave
abbrev pub AreHelp : List Given → Type 0
AreHelp entries = AllByRecursion (λ entry. IsHelping entry.origin) entries

-- A state has grown by definitions and lemmas: each id stands for what it stood for, each definition is as it was,
-- and nothing was refuted.
pub record Grown (old new : ProofState) : Type 0 where
  pub vars : old.vars ≤ new.vars
  pub definition : (variable : ℕ) (d : Definition) → definition_of old variable ≡ Some d → definition_of new variable ≡ Some d
  pub help : List Given
  pub are_help : AreHelp help
  pub given : new.given ≡ old.given ++ help
  pub refuted : new.refuted ≡ old.refuted
