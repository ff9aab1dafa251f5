-- What the definitions give on small inputs, as a reader works it out by hand.
use Rattle.std.proofs.Common.{◌≡◌, ℕ, true, false, List, [], ◌∷◌, refl}
use Rattle.kn_logic.specs.Literals.{Literal}
use Rattle.kn_logic.specs.Constraints.{Bounded, clause, klause, guarded_klause}
use Rattle.kn_logic.specs.Formulas.{Problem}
use Rattle.kn_counter.specs.declared.grid.Cell.TheVariants.{True, False, Inner}
use Rattle.kn_counter.specs.Grids.{cell_of}
use Rattle.kn_counter.specs.Counters.{counted}

-- the literal of a variable, and its negation
abbrev pos : ℕ → Literal
pos v = record { variable = v; positive = true }

abbrev neg : ℕ → Literal
neg v = record { variable = v; positive = false }

abbrev one_two_three : List Literal
one_two_three = pos 1 ∷ pos 2 ∷ pos 3 ∷ []

-- `k 1 1 2 3`, `k 3 1 2 3` and `k 2 1 2 3` over three variables
abbrev three_counts : Problem
three_counts = record { vars = 3; constraints = klause 1 one_two_three ∷ klause 3 one_two_three ∷ klause 2 one_two_three ∷ [] }

-- a clause; three unit clauses; the counter for at most one of -1, -2 and -3
abbrev nine_clauses : List Bounded
nine_clauses =
    clause one_two_three
    ∷ clause (pos 1 ∷ [])
    ∷ clause (pos 2 ∷ [])
    ∷ clause (pos 3 ∷ [])
    ∷ clause (pos 1 ∷ pos 4 ∷ [])
    ∷ clause (pos 2 ∷ pos 5 ∷ [])
    ∷ clause (neg 4 ∷ pos 5 ∷ [])
    ∷ clause (pos 2 ∷ neg 4 ∷ [])
    ∷ clause (pos 3 ∷ neg 5 ∷ [])
    ∷ []

counts_in_clauses : counted three_counts ≡ record { vars = 5; constraints = nine_clauses }
counts_in_clauses = refl

-- `g 4 2 1 2 3` over four variables: each clause of the counter under the guard
abbrev five_clauses : List Bounded
five_clauses =
    clause (neg 4 ∷ pos 1 ∷ pos 5 ∷ [])
    ∷ clause (neg 4 ∷ pos 2 ∷ pos 6 ∷ [])
    ∷ clause (neg 4 ∷ neg 5 ∷ pos 6 ∷ [])
    ∷ clause (neg 4 ∷ pos 2 ∷ neg 5 ∷ [])
    ∷ clause (neg 4 ∷ pos 3 ∷ neg 6 ∷ [])
    ∷ []

guarded_count : counted (record { vars = 4; constraints = guarded_klause (pos 4) 2 one_two_three ∷ [] }) ≡ record { vars = 6; constraints = five_clauses }
guarded_count = refl

-- `g 1 1 2` and `g -1 3 2` over two variables: a clause, and the guard's negation alone
guarded_ends : counted (record { vars = 2; constraints = guarded_klause (pos 1) 1 (pos 2 ∷ []) ∷ guarded_klause (neg 1) 3 (pos 2 ∷ []) ∷ [] }) ≡ record { vars = 2; constraints = clause (neg 1 ∷ pos 2 ∷ []) ∷ clause (pos 1 ∷ []) ∷ [] }
guarded_ends = refl

-- Over three literals, from the second on: two are left.
none_asked : cell_of 3 2 0 ≡ True
none_asked = refl

as_many_as_left : cell_of 3 2 2 ≡ Inner
as_many_as_left = refl

too_many_asked : cell_of 3 2 3 ≡ False
too_many_asked = refl
