-- A group of clauses that may hide a count: auxiliary variables, which stand in these clauses alone,
-- and a border of literals through which the clauses meet the rest of a formula. Reeves, Heule and
-- Bryant (CAV 2024) guess such groups in formulas of clauses alone, and verify the count that each hides.
use Rattle.std.specs.Prelude.{ℕ, ◌≡◌, ◌≤◌, ◌==◌, Bool, true, false, not, ◌&&◌, ◌||◌, List, [], ◌∷◌, length, map}
use Rattle.std.specs.List.{list_any, list_all, AllByRecursion}
use Rattle.std.specs.List.Sorted.{IsStrictlyIncreasing}
use Rattle.kn_logic.specs.Literals.{Literal, is_same, has}
use Rattle.kn_logic.specs.Constraints.{Bounded, is_clause}

pub record Gathered : Type 0 where
  pub aux : List ℕ
  pub taken : List Bounded
  pub border : List Literal

abbrev pub is_among : List ℕ → ℕ → Bool
is_among variables variable = list_any (λ v. v == variable) variables

-- The variable is an auxiliary one, or the literal itself stands in the border.
abbrev pub IsCovered : Gathered → Literal → Type 0
IsCovered g l = (is_among g.aux l.variable || has g.border l) ≡ true

pub record IsGroup (g : Gathered) : Type 0 where
  pub counted : AllByRecursion (λ v. 1 ≤ v) g.aux
  pub aux : IsStrictlyIncreasing g.aux
  pub border : IsStrictlyIncreasing (map (λ l. l.variable) g.border)
  pub apart : AllByRecursion (λ l. is_among g.aux l.variable ≡ false) g.border
  pub clauses : AllByRecursion (λ c. is_clause c ≡ true) g.taken
  pub covered : AllByRecursion (λ c. AllByRecursion (IsCovered g) c.lits) g.taken

-- two literals on different variables
abbrev pub is_pair : List Literal → Bool
is_pair [] = false
is_pair (a ∷ []) = false
is_pair (a ∷ b ∷ []) = not (a.variable == b.variable)
is_pair (a ∷ b ∷ c ∷ more) = false

-- A binary clause has exactly two literals, on different variables.
abbrev pub is_binary : Bounded → Bool
is_binary c = is_clause c && is_pair c.lits

-- a binary clause of these two literals, in any order
abbrev pub is_pair_of : Literal → Literal → Bounded → Bool
is_pair_of a b c = is_binary c && (has c.lits a && has c.lits b)

abbrev pub has_pair : List Bounded → Literal → Literal → Bool
has_pair cs a b = list_any (is_pair_of a b) cs

-- a binary clause whose two literals stand in the list
abbrev pub is_covered : List Literal → Bounded → Bool
is_covered lits c = is_binary c && list_all (has lits) c.lits

-- A pair group says by pairs that at most one literal of its border is false: it has no auxiliary variable
-- and at least three border literals, each of its clauses is one of two border literals, and for every
-- two of these there is one.
pub record IsPairGroup (g : Gathered) : Type 0 where
  pub group : IsGroup g
  pub aux : g.aux ≡ []
  pub three : 3 ≤ length g.border
  pub pairs : AllByRecursion (λ c. is_covered g.border c ≡ true) g.taken
  pub each : (a b : Literal) → has g.border a ≡ true → has g.border b ≡ true → is_same a b ≡ false → has_pair g.taken a b ≡ true
