-- Sequential counters: clauses, and further variables, for "at most k of x1 to xn" (Sinz, CP 2005). The
-- further variable s(i, j) is forced where at least j of x1 to xi are true.
use Rattle.std.specs.Prelude.{ℕ, zero, suc, ◌+◌, ◌-◌, ◌*◌, ◌==◌, nat_lt, ◌&&◌, Bool, true, if◌then◌else◌, List, [], ◌∷◌, ◌++◌, length, map, Option, option_to_list, option_map}
use Rattle.std.specs.List.{flat_map}
use Rattle.kn_logic.specs.Literals.{Literal, negated}
use Rattle.kn_logic.specs.Constraints.{Bounded, clause}
use Rattle.kn_logic.specs.Formulas.{Problem}

-- the most variables that a formula of clauses may have
abbrev pub most_counted : ℕ
most_counted = 10000000

-- the numbers from the first on, so many
abbrev pub counting : ℕ → ℕ → List ℕ
counting first zero = []
counting first (suc count) = first ∷ counting (first + 1) count

-- s(i, j) of a counter for at most k, whose further variables stand behind `base`
abbrev pub sum_literal : ℕ → ℕ → ℕ → ℕ → Literal
sum_literal base k i j = record { variable = base + (i - 1) * k + j; positive = true }

abbrev pub first_row : ℕ → ℕ → Literal → List (List Literal)
first_row base k x =
    (negated x ∷ sum_literal base k 1 1 ∷ []) ∷ map (λ j. negated (sum_literal base k 1 j) ∷ []) (counting 2 (k - 1))

-- the clauses by which s(i, j) follows for a j of at least 2
abbrev pub carried : ℕ → ℕ → ℕ → Literal → ℕ → List (List Literal)
carried base k i x j =
    (negated x ∷ negated (sum_literal base k (i - 1) (j - 1)) ∷ sum_literal base k i j ∷ [])
    ∷ (negated (sum_literal base k (i - 1) j) ∷ sum_literal base k i j ∷ [])
    ∷ []

-- not one more than k
abbrev pub overflow : ℕ → ℕ → ℕ → Literal → List Literal
overflow base k i x = negated x ∷ negated (sum_literal base k (i - 1) k) ∷ []

abbrev pub middle_row : ℕ → ℕ → ℕ → Literal → List (List Literal)
middle_row base k i x =
    (negated x ∷ sum_literal base k i 1 ∷ [])
    ∷ (negated (sum_literal base k (i - 1) 1) ∷ sum_literal base k i 1 ∷ [])
    ∷ (flat_map (carried base k i x) (counting 2 (k - 1)) ++ overflow base k i x ∷ [])

-- the rows from the i-th literal on, i being at least 2
abbrev pub rows_from : ℕ → ℕ → ℕ → List Literal → List (List Literal)
rows_from base k i [] = []
rows_from base k i (x ∷ []) = overflow base k i x ∷ []
rows_from base k i (x ∷ y ∷ xs) = middle_row base k i x ++ rows_from base k (i + 1) (y ∷ xs)

-- the counter for at most k of these literals, where k is at least 1 and less than their number
abbrev pub counter : ℕ → ℕ → List Literal → List (List Literal)
counter base k [] = []
counter base k (x ∷ xs) = first_row base k x ++ rows_from base k 2 xs

-- whether a constraint needs a counter
abbrev pub is_counted : ℕ → ℕ → Bool
is_counted bound n = nat_lt 1 bound && nat_lt bound n

-- how many further variables a constraint needs
abbrev pub further_of : ℕ → ℕ → ℕ
further_of bound n = if is_counted bound n then (n - 1) * (n - bound) else 0

-- the clauses for "at least `bound` of these literals"
abbrev pub bound_clauses : ℕ → ℕ → List Literal → List (List Literal)
bound_clauses base bound lits =
    if bound == 1 then lits ∷ []
    else if bound == 0 then []
    else if nat_lt (length lits) bound then [] ∷ []
    else if bound == length lits then map (λ l. l ∷ []) lits
    else counter base (length lits - bound) (map negated lits)

-- the clause under a guard: the guard's negation is put first
abbrev pub under : Option Literal → List Literal → Bounded
under guard lits = clause (option_to_list (option_map negated guard) ++ lits)

abbrev pub clauses_of : ℕ → Bounded → List Bounded
clauses_of base c = map (under c.guard) (bound_clauses base c.bound c.lits)

abbrev pub further : Bounded → ℕ
further c = further_of c.bound (length c.lits)

-- the clauses of constraints in their order, the further variables of a later one behind those of earlier ones
abbrev pub all_clauses : ℕ → List Bounded → List Bounded
all_clauses base [] = []
all_clauses base (c ∷ cs) = clauses_of base c ++ all_clauses (base + further c) cs

abbrev pub all_further : List Bounded → ℕ
all_further [] = 0
all_further (c ∷ cs) = further c + all_further cs

-- the formula of clauses alone
abbrev pub counted : Problem → Problem
counted f = record { vars = f.vars + all_further f.constraints; constraints = all_clauses f.vars f.constraints }
