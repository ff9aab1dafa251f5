-- The constraints of definitions in memory, so that they can be lent.
use Rattle.std.specs.Prelude.{ℕ, ◌+◌, ◌-◌, length, List, [], ◌∷◌}
use Rattle.kn_logic.specs.Literals.{Literal}
use Rattle.kn_logic.specs.Constraints.{Bounded}
use Rattle.kn_rules.specs.declared.definition.Definition.{Definition}
use Rattle.kn_rules.specs.declared.four.Four.{Four}
use Rattle.kn_rules.specs.declared.made.Place.{Place}
use Rattle.kn_rules.specs.declared.made.Place.TheVariants.{High, Low, NotHigh, NotLow}
use Rattle.kn_rules.specs.States.{Defined, ProofState}
use Rattle.kn_rules.specs.Entries.{clause_at, variable_of}

abbrev pub four_of : Literal → Definition → Four
four_of v d = record { high = clause_at v d High; low = clause_at v d Low; not_high = clause_at v d NotHigh; not_low = clause_at v d NotLow }

abbrev pub kept_at : Four → Place → Bounded
kept_at four High = four.high
kept_at four Low = four.low
kept_at four NotHigh = four.not_high
kept_at four NotLow = four.not_low

-- those of the definitions behind so many variables
abbrev pub fours_behind : ℕ → List Definition → List Four
fours_behind base [] = []
fours_behind base (d ∷ ds) = four_of (variable_of base 0) d ∷ fours_behind (base + 1) ds

abbrev pub fours : Defined → List Four
fours d = fours_behind d.base d.list

-- the definitions of a state, behind the variables of the file
abbrev pub defined_of : ProofState → Defined
defined_of s = record { base = s.vars - length s.definitions; list = s.definitions }
