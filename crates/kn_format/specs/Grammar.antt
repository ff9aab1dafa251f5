-- How a text spells a formula: DIMACS CNF, and KNF, which has klauses too.
use Rattle.std.specs.Prelude.{ℕ, ◌≡◌, ◌≤◌, ◌⊎◌, ◌++◌, List, [], ◌∷◌, length, flat_map, Some, IsSome, codes}
use Rattle.kn_logic.specs.Literals.{AreDifferent}
use Rattle.kn_logic.specs.Constraints.{Bounded, clause, klause, named}
use Rattle.kn_logic.specs.Formulas.{Problem, IsFormula}
use Rattle.kn_text.specs.Lines.{Line, content_of}
use Rattle.kn_text.specs.Numbers.{number_of, literal_of}
use Rattle.kn_text.specs.Lists.{LiteralsThen}
use Rattle.kn_format.specs.declared.format.Format.{Format}
use Rattle.kn_format.specs.declared.format.Format.TheVariants.{Cnf, Knf}

-- the most variables, constraints and bound that a text may have
abbrev pub most_variables : ℕ
most_variables = 1000000

abbrev pub most_constraints : ℕ
most_constraints = 10000000

abbrev pub highest_bound : ℕ
highest_bound = 1000000

-- the word that names the format
abbrev pub format_word : Format → List ℕ
format_word Cnf = codes "cnf"
format_word Knf = codes "knf"

-- the problem line: `p cnf V C` or `p knf V C`
abbrev pub SpellsProblem : List (List ℕ) → Format → ℕ → ℕ → Type 0
SpellsProblem (p ∷ name ∷ first ∷ second ∷ []) format vars constraints =
    (p ≡ codes "p") × (name ≡ format_word format) × (number_of first ≡ Some vars) × (number_of second ≡ Some constraints)
SpellsProblem _ format vars constraints = ⊥

-- The words begin with a constraint, and those behind it are as asked. A clause is its literals and an
-- end mark.
abbrev pub ClauseThen : (List (List ℕ) → Type 0) → List (List ℕ) → Bounded → Type 0
ClauseThen behind words c = (c ≡ clause c.lits) × LiteralsThen behind words c.lits

-- a number that a bound may be, its literals, and an end mark
abbrev pub BoundThen : (List (List ℕ) → Type 0) → List (List ℕ) → Bounded → Type 0
BoundThen behind [] c = ⊥
BoundThen behind (word ∷ words) c = (number_of word ≡ Some c.bound) × (c.bound ≤ highest_bound) × LiteralsThen behind words c.lits

-- behind `k`: a bound and literals
abbrev pub KlauseThen : (List (List ℕ) → Type 0) → List (List ℕ) → Bounded → Type 0
KlauseThen behind words c = (c ≡ klause c.bound c.lits) × BoundThen behind words c

-- behind `q`: a guard, a bound and literals
abbrev pub GuardThen : (List (List ℕ) → Type 0) → List (List ℕ) → Bounded → Type 0
GuardThen behind [] c = ⊥
GuardThen behind (word ∷ words) c = IsSome c.guard × (literal_of word ≡ c.guard) × BoundThen behind words c

-- behind the word that names the kind of a klause, which names no variable twice, its guard counted
abbrev pub MarkedThen : (List (List ℕ) → Type 0) → List (List ℕ) → Bounded → Type 0
MarkedThen behind [] c = ⊥
MarkedThen behind (word ∷ words) c =
    (((word ≡ codes "k") × KlauseThen behind words c) ⊎ ((word ≡ codes "q") × GuardThen behind words c))
    × AreDifferent (named c)

-- A `cnf` text has clauses alone.
abbrev pub ConstraintThen : Format → (List (List ℕ) → Type 0) → List (List ℕ) → Bounded → Type 0
ConstraintThen Cnf behind words c = ClauseThen behind words c
ConstraintThen Knf behind words c = ClauseThen behind words c ⊎ MarkedThen behind words c

-- the words are the constraints, one after another
abbrev pub SpellConstraints : Format → List (List ℕ) → List Bounded → Type 0
SpellConstraints format words [] = words ≡ []
SpellConstraints format words (c ∷ cs) = ConstraintThen format (λ behind. SpellConstraints format behind cs) words c

-- a line whose first word begins with `%` ends the constraints; what follows it is not read
abbrev pub BeginsTail : List (List ℕ) → Type 0
BeginsTail ((b ∷ word) ∷ words) = b ≡ 37
BeginsTail _ = ⊥

abbrev pub IsTail : List Line → Type 0
IsTail [] = Unit {0}
IsTail (line ∷ lines) = BeginsTail line.words

abbrev pub words_in : List Line → List (List ℕ)
words_in lines = flat_map (λ line. line.words) lines

-- the lines that are neither blank nor comments: the problem line, those of the constraints, the tail
pub record SpellsBy (lines : List Line) (format : Format) (problem : Line) (body tail : List Line) (f : Problem) : Type 0 where
  pub parts : lines ≡ problem ∷ (body ++ tail)
  pub header : SpellsProblem problem.words format f.vars (length f.constraints)
  pub constraints : SpellConstraints format (words_in body) f.constraints
  pub ending : IsTail tail
  pub vars : f.vars ≤ most_variables
  pub count : length f.constraints ≤ most_constraints
  pub formula : IsFormula f

-- The text spells the formula.
abbrev pub Spells : List ℕ → Problem → Type 0
Spells bytes f = (format : Format) × (problem : Line) × (body : List Line) × (tail : List Line) × SpellsBy (content_of bytes) format problem body tail f

abbrev pub SpellsNone : List ℕ → Type 0
SpellsNone bytes = (f : Problem) → Spells bytes f → ⊥
