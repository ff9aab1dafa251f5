-- The texts that are written of a formula and of an assignment.
use Rattle.std.specs.Prelude.{ℕ, ◌≡◌, ◌≤◌, zero, suc, true, ◌+◌, ◌++◌, Bool, if◌then◌else◌, List, [], ◌∷◌, length, map, flat_map, Option, Some, None, codes, decimal}
use Rattle.std.specs.List.{AllByRecursion}
use Rattle.kn_logic.specs.Literals.{Literal}
use Rattle.kn_logic.specs.Constraints.{Bounded, is_clause}
use Rattle.kn_logic.specs.Formulas.{Problem}
use Rattle.kn_text.specs.Lines.{line_text}
use Rattle.kn_text.specs.Numbers.{literal_word}
use Rattle.kn_format.specs.declared.format.Format.{Format}
use Rattle.kn_format.specs.declared.format.Format.TheVariants.{Cnf, Knf}
use Rattle.kn_format.specs.Grammar.{format_word, most_variables, most_constraints, highest_bound}

-- literals and the end mark
abbrev pub list_words : List Literal → List (List ℕ)
list_words lits = map literal_word lits ++ codes "0" ∷ []

-- what stands before the literals of a klause
abbrev pub mark_words : Option Literal → ℕ → List (List ℕ)
mark_words None bound = codes "k" ∷ decimal bound ∷ []
mark_words (Some guard) bound = codes "q" ∷ literal_word guard ∷ decimal bound ∷ []

abbrev pub constraint_words : Bounded → List (List ℕ)
constraint_words c = if is_clause c then list_words c.lits else mark_words c.guard c.bound ++ list_words c.lits

abbrev pub problem_words : Format → Problem → List (List ℕ)
problem_words format f = codes "p" ∷ format_word format ∷ decimal f.vars ∷ decimal (length f.constraints) ∷ []

abbrev pub constraint_line : Bounded → List ℕ
constraint_line c = line_text (constraint_words c)

-- the problem line, then a line for each constraint
abbrev pub formula_text : Format → Problem → List ℕ
formula_text format f = line_text (problem_words format f) ++ flat_map constraint_line f.constraints

abbrev pub knf_text : Problem → List ℕ
knf_text f = formula_text Knf f

abbrev pub cnf_text : Problem → List ℕ
cnf_text f = formula_text Cnf f

-- the literals that are true, of variables from this one on
abbrev pub true_literals : ℕ → List Bool → List Literal
true_literals variable [] = []
true_literals variable (value ∷ values) = record { variable = variable; positive = value } ∷ true_literals (variable + 1) values

-- The numbers of a model: the literals of all variables that are true, ascending by variable, then 0.
abbrev pub model_words : List Bool → List (List ℕ)
model_words values = list_words (true_literals 1 values)

-- Lines of `v` and words, of which this many more fit on the line that is begun; ten fit on each.
abbrev pub value_lines : ℕ → List (List ℕ) → List ℕ
value_lines room [] = 10 ∷ []
value_lines zero (word ∷ words) = 10 ∷ (codes "v " ++ word ++ value_lines 9 words)
value_lines (suc room) (word ∷ words) = 32 ∷ (word ++ value_lines room words)

-- the model as it is printed
abbrev pub model_text : List Bool → List ℕ
model_text values = 118 ∷ value_lines 10 (model_words values)

-- within the limits of what is read
pub record IsWithinLimits (f : Problem) : Type 0 where
  pub vars : f.vars ≤ most_variables
  pub count : length f.constraints ≤ most_constraints
  pub bounds : AllByRecursion (λ c. c.bound ≤ highest_bound) f.constraints

-- A text of CNF has clauses alone.
abbrev pub Suits : Format → Problem → Type 0
Suits format f = format ≡ Cnf → AllByRecursion (λ c. is_clause c ≡ true) f.constraints
