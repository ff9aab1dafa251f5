-- A truth table over n variables is a list of 2^n truth values, one for each index.
use Rattle.std.specs.Prelude.{ℕ, ◌≡◌, ◌≢◌, ◌<◌, ◌^◌, ◌||◌, Bool, true, false, not, if◌then◌else◌, List, length, slice_index_or}
use Rattle.std.specs.List.{AllByRecursion}
use Rattle.kn_tables.specs.declared.literal.TableLit.{TableLit}
use Rattle.kn_tables.specs.Indices.{has_bit, index_with}

pub record Truth : Type 0 where
  pub vars : ℕ
  pub values : List Bool

-- the value of a table at an index
abbrev pub value_at : Truth → ℕ → Bool
value_at t i = slice_index_or t.values i false

-- the table is that of this function, over so many variables
pub record IsTable (n : ℕ) (f : ℕ → Bool) (t : Truth) : Type 0 where
  pub vars : t.vars ≡ n
  pub whole : length t.values ≡ 2 ^ n
  pub each : (i : ℕ) → i < 2 ^ n → value_at t i ≡ f i

-- whether a literal is true at an index
abbrev pub is_true_at : ℕ → TableLit → Bool
is_true_at i l = if l.positive then has_bit i l.var else not (has_bit i l.var)

-- the literals are of variables below n
abbrev pub AreBelow : ℕ → List TableLit → Type 0
AreBelow n lits = AllByRecursion (λ l. l.var < n) lits

-- whether a function is true, for some value of a variable, where an index gives the others
abbrev pub some_value_at : ℕ → (ℕ → Bool) → ℕ → Bool
some_value_at j f i = f (index_with i j true) || f (index_with i j false)

-- the least index at which two tables of one size differ
pub record IsFirstDifference (a b : Truth) (i : ℕ) : Type 0 where
  pub within : i < 2 ^ a.vars
  pub differs : value_at a i ≢ value_at b i
  pub before : (k : ℕ) → k < i → value_at a k ≡ value_at b k
