-- How a checker keeps what the ids stand for. The four constraints of a definition are not kept: an id of one of them
-- has its place among the four and the number of the definition, from which it is made where it is asked for.
use Rattle.std.specs.Prelude.{ℕ, ◌≡◌, ◌<◌, ◌+◌, Bool, true, false, List, [], ◌∷◌, Option, Some, None, Result, Ok, Err, option_map, slice_get}
use Rattle.kn_logic.specs.Literals.{Literal, negated}
use Rattle.kn_logic.specs.Constraints.{Bounded, clause, klause}
use Rattle.kn_rules.specs.declared.definition.Definition.{Definition}
use Rattle.kn_rules.specs.declared.given.Given.{Given}
use Rattle.kn_rules.specs.declared.given.Origin.{Origin}
use Rattle.kn_rules.specs.declared.given.Origin.TheVariants as origin
use Rattle.kn_rules.specs.declared.made.Made.{Made}
use Rattle.kn_rules.specs.declared.made.Made.TheVariants.{Always, Two, Three}
use Rattle.kn_rules.specs.declared.made.Place.{Place}
use Rattle.kn_rules.specs.declared.made.Place.TheVariants.{High, Low, NotHigh, NotLow}
use Rattle.kn_rules.specs.declared.slot.Slot.{Slot}
use Rattle.kn_rules.specs.declared.slot.Slot.TheVariants.{Kept, Derived, Deleted}
use Rattle.kn_rules.specs.States.{Defined}
use Rattle.kn_rules.specs.Causes.{not_live}
use Rattle.kn_rules.specs.Steps.{with_arm, opposite}

-- the definitions, and what the ids stand for
pub record Entered : Type 0 where
  pub defined : Defined
  pub given : List Given

-- what a constraint says that was made
abbrev pub bounded_of : Made → Bounded
bounded_of Always = klause 0 []
bounded_of (Two lits) = clause lits
bounded_of (Three lits) = clause lits

-- the constraint at a place among those that "v is: if test then high else low" gives
abbrev pub clause_at : Literal → Definition → Place → Bounded
clause_at v d High = with_arm (negated v ∷ negated d.test ∷ []) d.high
clause_at v d Low = with_arm (negated v ∷ d.test ∷ []) d.low
clause_at v d NotHigh = with_arm (v ∷ negated d.test ∷ []) (opposite d.high)
clause_at v d NotLow = with_arm (v ∷ d.test ∷ []) (opposite d.low)

-- the variable of the definition with this number, which counts from 0, behind so many variables
abbrev pub variable_of : ℕ → ℕ → Literal
variable_of base number = record { variable = base + number + 1; positive = true }

abbrev pub made_at : Defined → Place → ℕ → Option Bounded
made_at d place number = option_map (λ e. clause_at (variable_of d.base number) e place) (slice_get d.list number)

-- what gave a slot
abbrev pub origin_of : Slot → Origin
origin_of (Kept o c) = o
origin_of (Derived place number) = origin.Definition
origin_of (Deleted o) = o

-- what a slot stands for
abbrev pub given_of : Defined → Slot → Given
given_of d (Kept o c) = record { origin = o; live = Some c.value }
given_of d (Derived place number) = record { origin = origin.Definition; live = made_at d place number }
given_of d (Deleted o) = record { origin = o; live = None }

-- the definition of a slot is one of so many
abbrev pub IsSlotOf : ℕ → Slot → Type 0
IsSlotOf count (Kept o c) = Unit {0}
IsSlotOf count (Derived place number) = number < count
IsSlotOf count (Deleted o) = Unit {0}

-- the four slots of a definition
abbrev pub derived : ℕ → List Slot
derived number = Derived High number ∷ Derived Low number ∷ Derived NotHigh number ∷ Derived NotLow number ∷ []

-- the ids are deleted, or one of them was not live when its turn came, or memory was short
abbrev pub Deletes : {E : Type 0} → Result Bool E → Result (List Given) ℕ → Entered → Entered → Type 0
Deletes (Ok true) after old new = (after ≡ Ok new.given) × (new.defined ≡ old.defined)
Deletes (Ok false) after old new = (after ≡ Err not_live) × (new ≡ old)
Deletes (Err e) after old new = new ≡ old
