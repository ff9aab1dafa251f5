-- A family of formulas that grows by blocks: eight variables a block, of which at most so many and at least
-- so many are true. In the last block these two contradict each other.
use Rattle.std.specs.Prelude.{ℕ, zero, suc, ◌+◌, ◌-◌, ◌*◌, ◌%◌, ◌==◌, true, false, if◌then◌else◌, List, [], ◌∷◌, ◌++◌, map}
use Rattle.kn_logic.specs.Literals.{Literal, negated}
use Rattle.kn_logic.specs.Constraints.{Bounded, clause, klause}
use Rattle.kn_logic.specs.Formulas.{Problem}
use Rattle.kn_counter.specs.Counters.{counted}

-- the positive literals of so many variables, from the first one on
abbrev pub literals_from : ℕ → ℕ → List Literal
literals_from first zero = []
literals_from first (suc count) = (record { variable = first; positive = true }) ∷ literals_from (first + 1) count

-- the eight of block t, which counts from 1
abbrev pub block : ℕ → List Literal
block t = literals_from (8 * t - 7) 8

-- how many of block t of n are true at most, and at least
abbrev pub at_most : ℕ → ℕ → ℕ
at_most n t = if t == n then 3 else 3 + t % 3

abbrev pub at_least : ℕ → ℕ → ℕ
at_least n t = if t == n then 4 else 2 + t % 2

abbrev pub block_klauses : ℕ → ℕ → List Bounded
block_klauses n t = klause (8 - at_most n t) (map negated (block t)) ∷ klause (at_least n t) (block t) ∷ []

-- those of the first so many blocks of n
abbrev pub blocks : ℕ → ℕ → List Bounded
blocks n zero = []
blocks n (suc t) = blocks n t ++ block_klauses n (suc t)

-- between block t and the next: the first variable of the next is not true alone
abbrev pub link : ℕ → Bounded
link t = clause ((record { variable = 8 * t - 7; positive = true }) ∷ (record { variable = 8 * t + 1; positive = false }) ∷ [])

-- behind each of the first so many blocks
abbrev pub links : ℕ → List Bounded
links zero = []
links (suc t) = links t ++ link (suc t) ∷ []

-- so many blocks, as klauses
abbrev pub block_formula : ℕ → Problem
block_formula n = record { vars = 8 * n; constraints = blocks n n ++ links (n - 1) }

-- the formula that is generated: the blocks in clauses alone, their counts hidden in sequential counters
abbrev pub generated : ℕ → Problem
generated n = counted (block_formula n)

-- A counter for at most k of eight literals has k columns, with 7 * k further variables and 13 * k + 7 clauses. How many
-- columns the two counters of block t of n have, and those of the first so many blocks.
abbrev pub columns : ℕ → ℕ → ℕ
columns n t = at_most n t + (8 - at_least n t)

abbrev pub all_columns : ℕ → ℕ → ℕ
all_columns n zero = 0
all_columns n (suc t) = all_columns n t + columns n (suc t)
