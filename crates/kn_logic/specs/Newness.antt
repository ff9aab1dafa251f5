-- New clauses: what a solver learns is not there yet, and propagation does not find it. Clauses that are
-- asserting after a conflict have this property (Marques Silva and Sakallah; CDCL), and so has
-- the negation of all decisions.
use Rattle.std.specs.Prelude.{◌≡◌, ◌⊎◌, true, false, List}
use Rattle.std.specs.List.{AllByRecursion}
use Rattle.kn_logic.specs.Literals.{Literal, negated, has, AreDifferent}
use Rattle.kn_logic.specs.Constraints.{Bounded}
use Rattle.kn_logic.specs.Propagation.{IsClosed}

-- The list is closed for the constraints and makes each literal false but one, to which it gives no value.
pub record IsNewBy (cs : List Bounded) (lits : List Literal) (last : Literal) (trail : List Literal) : Type 0 where
  pub stands : has lits last ≡ true
  pub closed : IsClosed trail cs
  pub others : AllByRecursion (λ l. (l ≡ last) ⊎ (has trail (negated l) ≡ true)) lits
  pub unset : has trail last ≡ false
  pub unrefuted : has trail (negated last) ≡ false

-- A clause of these literals is new for the constraints where no variable stands at two of its places, in
-- one polarity or in both, and there are such a literal and such a list.
abbrev pub IsNew : List Bounded → List Literal → Type 0
IsNew cs lits = AreDifferent lits × ((last : Literal) × (trail : List Literal) × IsNewBy cs lits last trail)
