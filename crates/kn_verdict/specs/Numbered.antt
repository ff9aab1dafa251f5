-- The variables of a group by number, as a table over them has it, and what such a table tells.
use Rattle.std.specs.Prelude.{ℕ, zero, suc, ◌≡◌, ◌+◌, ◌*◌, ◌^◌, ◌<◌, ◌↔◌, Bool, true, not, if◌then◌else◌, List, [], ◌∷◌, ◌++◌, length, map, slice_index}
use Rattle.std.specs.List.{list_any, list_all, AllByRecursion}
use Rattle.kn_logic.specs.Literals.{Literal}
use Rattle.kn_logic.specs.Constraints.{Bounded}
use Rattle.kn_logic.specs.Groups.{Gathered}
use Rattle.kn_tables.specs.declared.literal.TableLit.{TableLit}
use Rattle.kn_tables.specs.Indices.{has_bit}
use Rattle.kn_tables.specs.Tables.{Truth, value_at, is_true_at}
use Rattle.kn_diagram.specs.Diagrams.{depth_in}
use Rattle.kn_quant.specs.Runs.{AgreeBut, clause_function}
use Rattle.kn_verdict.specs.declared.few.Said.{Said}
use Rattle.kn_verdict.specs.declared.few.Said.TheVariants.{Count, Unlike}
use Rattle.kn_verdict.specs.Cardinals.{IsCardinal, IsOnlyBound, DiffersAt}

-- the variables in the order of their numbers: those of the border, then the auxiliary ones
abbrev pub variables_of : Gathered → List ℕ
variables_of g = map (λ l. l.variable) g.border ++ g.aux

-- a literal whose variable goes by its place among these
abbrev pub numbered : List ℕ → Literal → TableLit
numbered variables l = record { var = depth_in variables l.variable; positive = l.positive }

-- the variables of the literals are among these
abbrev pub AreAmong : List ℕ → List Literal → Type 0
AreAmong variables lits = AllByRecursion (λ l. depth_in variables l.variable < length variables) lits

-- whether all clauses are true at an index
abbrev pub conjunction : List ℕ → List Bounded → ℕ → Bool
conjunction variables cs i = list_all (λ c. list_any (is_true_at i) (map (numbered variables) c.lits)) cs

-- an index gives the variables these values
abbrev pub Gives : List ℕ → ℕ → (ℕ → Bool) → Type 0
Gives variables i v = (k : ℕ) → k < length variables → has_bit i k ≡ v (slice_index variables k)

-- Some values of these variables satisfy all clauses. Of the auxiliary ones, this is `CanHold`.
abbrev pub CanHoldBy : List ℕ → List Bounded → (ℕ → Bool) → Type 0
CanHoldBy ys cs v = (w : ℕ → Bool) × AgreeBut ys v w × AllByRecursion (λ c. clause_function c w ≡ true) cs

-- The table is true exactly where some values of these auxiliary variables satisfy all clauses.
pub record Tells (g : Gathered) (ys : List ℕ) (t : Truth) : Type 0 where
  pub vars : t.vars ≡ length (variables_of g)
  pub each : (i : ℕ) (v : ℕ → Bool) → i < 2 ^ length (variables_of g) → Gives (variables_of g) i v → (value_at t i ≡ true) ↔ CanHoldBy ys g.taken v

-- the index with these bits, the lowest first
abbrev pub index_of : List Bool → ℕ
index_of [] = 0
index_of (b ∷ bits) = (if b then 1 else 0) + 2 * index_of bits

-- the values of the variables where exactly the first of these literals, so many, are true
abbrev pub first_values : List Literal → ℕ → List Bool
first_values [] first = []
first_values (l ∷ lits) zero = not l.positive ∷ first_values lits zero
first_values (l ∷ lits) (suc first) = l.positive ∷ first_values lits first

-- what is found of a group by its table
abbrev pub IsSaid : Gathered → Said → Type 0
IsSaid g (Count bound) = IsCardinal g bound
IsSaid g (Unlike bound values) = IsOnlyBound g bound × DiffersAt g bound values
