-- The first fault of a text, told by the grammar alone. Up to the word at fault the words of the constraints
-- begin those of some formula with the same problem line, and with it those of none.
use Rattle.std.specs.Prelude.{ℕ, ◌≡◌, ◌≤◌, ◌<◌, ◌⊎◌, ◌++◌, List, [], ◌∷◌, length}
use Rattle.kn_logic.specs.Constraints.{Bounded}
use Rattle.kn_logic.specs.Formulas.{IsFormula}
use Rattle.kn_text.specs.Lines.{Line, content_of}
use Rattle.kn_format.specs.declared.format.Format.TheVariants.{Cnf}
use Rattle.kn_format.specs.declared.header.Header.{Header}
use Rattle.kn_format.specs.Grammar.{most_variables, most_constraints, SpellsProblem, SpellConstraints, BeginsTail, words_in}

-- The text has this problem line, and behind it these lines that are neither blank nor comments.
pub record HasHeader (bytes : List ℕ) (h : Header) (lines : List Line) : Type 0 where
  pub problem : Line
  pub content : content_of bytes ≡ problem ∷ lines
  pub header : SpellsProblem problem.words h.format h.vars h.count
  pub vars : h.vars ≤ most_variables
  pub count : h.count ≤ most_constraints

-- The words are so many whole constraints, over the variables of the problem line.
pub record AreConstraints (h : Header) (count : ℕ) (words : List (List ℕ)) : Type 0 where
  pub constraints : List Bounded
  pub spelled : SpellConstraints h.format words constraints
  pub formula : IsFormula (record { vars = h.vars; constraints = constraints })
  pub number : length constraints ≡ count

-- With some words behind them, the words are the constraints of a formula with this problem line.
abbrev pub CanGoOn : Header → List (List ℕ) → Type 0
CanGoOn h words = (behind : List (List ℕ)) × AreConstraints h h.count (words ++ behind)

-- Behind a `q` a guard can follow: there is a variable for it. A `cnf` text has no `q`.
abbrev pub HasGuards : Header → Type 0
HasGuards h = (h.format ≡ Cnf) ⊎ (1 ≤ h.vars)

-- A word of the line of this number is the first with which the words of the constraints cannot go on; and
-- its line is none that ends them.
pub record IsFirstWrong (h : Header) (lines : List Line) (number : ℕ) : Type 0 where
  pub before : List Line
  pub line : Line
  pub behind : List Line
  pub front : List (List ℕ)
  pub word : List ℕ
  pub back : List (List ℕ)
  pub parts : lines ≡ before ++ line ∷ behind
  pub words : line.words ≡ front ++ word ∷ back
  pub place : line.number ≡ number
  pub begins : HasGuards h → CanGoOn h (words_in before ++ front)
  pub wrong : CanGoOn h ((words_in before ++ front) ++ word ∷ []) → ⊥
  pub body : front ≡ [] → BeginsTail line.words → AreConstraints h h.count (words_in before) → ⊥

-- The words can go on, and end within a constraint.
pub record EndWithin (h : Header) (words : List (List ℕ)) : Type 0 where
  pub begins : HasGuards h → CanGoOn h words
  pub within : (count : ℕ) → count ≤ h.count → AreConstraints h count words → ⊥

-- The words are fewer constraints than the problem line says.
abbrev pub AreTooFew : Header → List (List ℕ) → Type 0
AreTooFew h words = (count : ℕ) × (count < h.count) × AreConstraints h count words
