-- A counter row by row, as it is written: s(i, 1) to s(i, k) are the variables behind a number `start`, and
-- those of the next row the ones behind `start + k`.
use Rattle.std.specs.Prelude.{ℕ, ◌+◌, ◌-◌, Bool, true, if◌then◌else◌, List, [], ◌∷◌, ◌++◌, map}
use Rattle.std.specs.List.{flat_map}
use Rattle.kn_logic.specs.Literals.{Literal, negated}
use Rattle.kn_logic.specs.Constraints.{Bounded, clause}
use Rattle.kn_logic.specs.Formulas.{Problem}
use Rattle.kn_counter.specs.Counters.{counting}

-- the j-th variable of a row
abbrev pub row_literal : ℕ → ℕ → Literal
row_literal start j = record { variable = start + j; positive = true }

abbrev pub first_at : ℕ → ℕ → Literal → List (List Literal)
first_at start k x =
    (negated x ∷ row_literal start 1 ∷ []) ∷ map (λ j. negated (row_literal start j) ∷ []) (counting 2 (k - 1))

-- what the row above gives to the j-th variable of the row behind it, for a j of at least 2
abbrev pub carried_at : ℕ → ℕ → Literal → ℕ → List (List Literal)
carried_at start k x j =
    (negated x ∷ negated (row_literal start (j - 1)) ∷ row_literal (start + k) j ∷ [])
    ∷ (negated (row_literal start j) ∷ row_literal (start + k) j ∷ [])
    ∷ []

abbrev pub overflow_at : ℕ → ℕ → Literal → List Literal
overflow_at start k x = negated x ∷ negated (row_literal start k) ∷ []

abbrev pub middle_at : ℕ → ℕ → Literal → List (List Literal)
middle_at start k x =
    (negated x ∷ row_literal (start + k) 1 ∷ [])
    ∷ (negated (row_literal start 1) ∷ row_literal (start + k) 1 ∷ [])
    ∷ (flat_map (carried_at start k x) (counting 2 (k - 1)) ++ overflow_at start k x ∷ [])

-- the clauses of a literal behind the first
abbrev pub row_at : ℕ → ℕ → Literal → Bool → List (List Literal)
row_at start k x is_last = if is_last then overflow_at start k x ∷ [] else middle_at start k x

-- the clauses of all literals behind the first; the row above the first of them stands behind `start`
abbrev pub rows_at : ℕ → ℕ → List Literal → List (List Literal)
rows_at start k [] = []
rows_at start k (x ∷ []) = overflow_at start k x ∷ []
rows_at start k (x ∷ y ∷ xs) = middle_at start k x ++ rows_at (start + k) k (y ∷ xs)

-- a clause with these literals in front of it
abbrev pub after : List Literal → List Literal → Bounded
after front lits = clause (front ++ lits)

-- a formula with further constraints behind its own
abbrev pub with_more : Problem → List Bounded → Problem
with_more f cs = record { vars = f.vars; constraints = f.constraints ++ cs }

-- a formula with further clauses, each with these literals in front of it
abbrev pub with_clauses : List Literal → Problem → List (List Literal) → Problem
with_clauses front f clauses = with_more f (map (after front) clauses)
