-- The causes for which a text is no proof, as numbers. A line is told with the first of them in the order in
-- which `Steps` tests them.
use Rattle.std.specs.Prelude.{ℕ}

-- the first line is not the header of a proof for the formula, or a later line is a header
abbrev pub wrong_header : ℕ
wrong_header = 1

-- it is no line of a proof
abbrev pub bad_line : ℕ
bad_line = 2

-- a variable of the line is not known
abbrev pub unknown_variable : ℕ
unknown_variable = 3

-- an id of the line is not live
abbrev pub not_live : ℕ
not_live = 4

-- the run of hints does not end in conflict
abbrev pub no_conflict : ℕ
no_conflict = 5

-- the constraint of a klause's unit is not the clause of the root alone
abbrev pub wrong_unit : ℕ
wrong_unit = 6

-- the root does not stand for the grid of the klause
abbrev pub wrong_root : ℕ
wrong_root = 7

-- the klause names a variable twice, or the constraint that is unfolded does so or has a guard
abbrev pub not_plain : ℕ
not_plain = 8

-- all lines step, and none gave the clause without literals; told with the number of lines
abbrev pub not_refuted : ℕ
not_refuted = 9
