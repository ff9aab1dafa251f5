-- When a group of clauses hides a count.
use Rattle.std.specs.Prelude.{ℕ, ◌≡◌, ◌+◌, ◌-◌, ◌<◌, ◌≤◌, ◌↔◌, ◌⊎◌, ◌++◌, Bool, true, false, List, length, map, replicate}
use Rattle.kn_logic.specs.Literals.{places}
use Rattle.kn_logic.specs.Groups.{Gathered}
use Rattle.kn_diagram.specs.Diagrams.{is_true_by}
use Rattle.kn_quant.specs.Runs.{CanHold, IsFirstWide}

-- A group is cardinal with a bound where, whatever the values of the border's variables, some values of the
-- auxiliary variables satisfy all its clauses exactly where at least so many border literals are true. The
-- bound n + 1 of n literals says "never".
pub record IsCardinal (g : Gathered) (bound : ℕ) : Type 0 where
  pub within : bound ≤ length g.border + 1
  pub counts : (v : ℕ → Bool) → CanHold g v ↔ (bound ≤ places (is_true_by v) g.border)

-- The clauses can be satisfied where exactly the first literals of the border, so many, are true.
abbrev pub CanStart : Gathered → ℕ → Type 0
CanStart g first =
    (v : ℕ → Bool) × (map (is_true_by v) g.border ≡ replicate first true ++ replicate (length g.border - first) false) × CanHold g v

-- The only bound that is possible is the least number of first literals with which the clauses can be
-- satisfied, and n + 1 where there is none.
pub record IsOnlyBound (g : Gathered) (bound : ℕ) : Type 0 where
  pub within : bound ≤ length g.border + 1
  pub met : bound ≤ length g.border → CanStart g bound
  pub least : (first : ℕ) → first < bound → CanStart g first → ⊥

-- At these values of the border's variables, in order, the clauses and the count differ: one of both can be
-- satisfied, and the other cannot.
pub record DiffersAt (g : Gathered) (bound : ℕ) (values : List Bool) : Type 0 where
  pub all : ℕ → Bool
  pub are : map (λ l. all l.variable) g.border ≡ values
  pub differs : (CanHold g all × (places (is_true_by all) g.border < bound)) ⊎ ((CanHold g all → ⊥) × (bound ≤ places (is_true_by all) g.border))

-- no stage of the elimination is wide
abbrev pub IsNarrow : Gathered → Type 0
IsNarrow g = (stage level : ℕ) → IsFirstWide g stage level → ⊥
