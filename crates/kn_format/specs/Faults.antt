-- The first fault of a text that spells no formula. The words of the constraints are read one after
-- another, and at each place of the grammar some words have a cause; the first such word is the fault.
-- `FirstFaults` tells by the grammar alone where it stands.
use Rattle.std.specs.Prelude.{ℕ, ◌≡◌, ◌==◌, nat_lt, ◌++◌, Bool, true, false, ◌&&◌, ◌⊎◌, if◌then◌else◌, List, [], ◌∷◌, length, Option, Some, None, Result, Ok, Err, codes}
use Rattle.std.specs.Str.{bytes_eq}
use Rattle.kn_logic.specs.Literals.{Literal, names}
use Rattle.kn_logic.specs.Constraints.{Bounded, clause, klause, guarded_klause, named}
use Rattle.kn_logic.specs.Formulas.{Problem}
use Rattle.kn_text.specs.Lines.{Line, lines_of, content_of}
use Rattle.kn_text.specs.Numbers.{number_of, literal_of, is_end}
use Rattle.kn_format.specs.declared.error.Refusal.{Refusal}
use Rattle.kn_format.specs.declared.format.Format.{Format}
use Rattle.kn_format.specs.declared.format.Format.TheVariants.{Cnf, Knf}
use Rattle.kn_format.specs.declared.header.Header.{Header}
use Rattle.kn_format.specs.declared.place.Place.{Place}
use Rattle.kn_format.specs.declared.place.Place.TheVariants.{Between, Guard, Bound, Clause, Klause}
use Rattle.kn_format.specs.Grammar.{most_variables, most_constraints, highest_bound, words_in}

-- The causes, as numbers. At one place the least of them decides.
abbrev pub no_header : ℕ
no_header = 1

abbrev pub bad_header : ℕ
bad_header = 2

abbrev pub too_many_variables : ℕ
too_many_variables = 3

abbrev pub too_many_constraints : ℕ
too_many_constraints = 4

abbrev pub bad_token : ℕ
bad_token = 5

abbrev pub variable_above_header : ℕ
variable_above_header = 6

abbrev pub bound_too_large : ℕ
bound_too_large = 7

abbrev pub repeated_variable : ℕ
repeated_variable = 8

abbrev pub extra_constraint : ℕ
extra_constraint = 9

abbrev pub unended : ℕ
unended = 10

abbrev pub missing_constraint : ℕ
missing_constraint = 11

-- The problem line.
abbrev pub within_limits : Header → Result Header ℕ
within_limits h =
    if nat_lt most_variables h.vars then Err too_many_variables
    else if nat_lt most_constraints h.count then Err too_many_constraints
    else Ok h

abbrev pub format_of : List ℕ → Option Format
format_of word = if bytes_eq word (codes "cnf") then Some Cnf else if bytes_eq word (codes "knf") then Some Knf else None

abbrev pub header_from : Option Format → Option ℕ → Option ℕ → Result Header ℕ
header_from (Some format) (Some vars) (Some count) = within_limits (record { format = format; vars = vars; count = count })
header_from _ _ _ = Err bad_header

abbrev pub header_behind : List (List ℕ) → Result Header ℕ
header_behind (name ∷ vars ∷ count ∷ []) = header_from (format_of name) (number_of vars) (number_of count)
header_behind _ = Err bad_header

abbrev pub header_of : List (List ℕ) → Result Header ℕ
header_of [] = Err no_header
header_of (word ∷ words) = if bytes_eq word (codes "p") then header_behind words else Err no_header

-- How far the constraints are read: the formula of those that are complete, what comes next, and what
-- is read of the constraint that is begun.
pub record Reading : Type 0 where
  pub format : Format
  pub count : ℕ
  pub formula : Problem
  pub place : Place
  pub begun : Bounded

-- no word of a constraint yet
abbrev pub nothing : Bounded
nothing = klause 0 []

abbrev pub start : Header → Reading
start h = record { format = h.format; count = h.count; formula = record { vars = h.vars; constraints = [] }; place = Between; begun = nothing }

-- whether as many constraints are complete as the problem line says
abbrev pub is_full : Reading → Bool
is_full r = length r.formula.constraints == r.count

abbrev pub is_above : Reading → Literal → Bool
is_above r l = nat_lt r.formula.vars l.variable

-- A constraint begins, unless it is one too many.
abbrev pub begin : Reading → Place → Bounded → Result Reading ℕ
begin r place begun = if is_full r then Err extra_constraint else Ok (record r { place = place; begun = begun })

abbrev pub complete : Reading → Bounded → Reading
complete r c = record r { formula = record r.formula { constraints = r.formula.constraints ++ c ∷ [] }; place = Between; begun = nothing }

abbrev pub with_literal : Bounded → Literal → Bounded
with_literal c l = record c { lits = c.lits ++ l ∷ [] }

abbrev pub with_bound : Bounded → ℕ → Bounded
with_bound c bound = record c { bound = bound }

-- whether the word is the one that names a kind of klause
abbrev pub marks : Format → List ℕ → List ℕ → Bool
marks Cnf word mark = false
marks Knf word mark = bytes_eq word mark

-- Where a constraint may begin: a literal, the end mark, or a word that names a kind of klause.
abbrev pub first_literal : Reading → Literal → Result Reading ℕ
first_literal r l = if is_above r l then Err variable_above_header else begin r Clause (clause (l ∷ []))

abbrev pub empty_clause : Reading → Result Reading ℕ
empty_clause r = if is_full r then Err extra_constraint else Ok (complete r (clause []))

abbrev pub first_word : Reading → List ℕ → Option Literal → Result Reading ℕ
first_word r word (Some l) = first_literal r l
first_word r word None = if is_end word then empty_clause r else Err bad_token

abbrev pub between : Reading → List ℕ → Result Reading ℕ
between r word =
    if marks r.format word (codes "k") then begin r Bound nothing
    else if marks r.format word (codes "q") then begin r Guard nothing
    else first_word r word (literal_of word)

-- Behind `q`: a literal.
abbrev pub guard : Reading → Option Literal → Result Reading ℕ
guard r None = Err bad_token
guard r (Some l) =
    if is_above r l then Err variable_above_header
    else Ok (record r { place = Bound; begun = guarded_klause l 0 [] })

-- Behind `k` or a guard: a number.
abbrev pub bound : Reading → Option ℕ → Result Reading ℕ
bound r None = Err bad_token
bound r (Some n) =
    if nat_lt highest_bound n then Err bound_too_large
    else Ok (record r { place = Klause; begun = with_bound r.begun n })

-- Within a list of literals: a literal, or the end mark.
abbrev pub end : Reading → List ℕ → Result Reading ℕ
end r word = if is_end word then Ok (complete r r.begun) else Err bad_token

abbrev pub within_clause : Reading → List ℕ → Option Literal → Result Reading ℕ
within_clause r word None = end r word
within_clause r word (Some l) =
    if is_above r l then Err variable_above_header
    else Ok (record r { begun = with_literal r.begun l })

abbrev pub within_klause : Reading → List ℕ → Option Literal → Result Reading ℕ
within_klause r word None = end r word
within_klause r word (Some l) =
    if is_above r l then Err variable_above_header
    else if names (named r.begun) l.variable then Err repeated_variable
    else Ok (record r { begun = with_literal r.begun l })

abbrev pub at : Place → Reading → List ℕ → Result Reading ℕ
at Between r word = between r word
at Guard r word = guard r (literal_of word)
at Bound r word = bound r (number_of word)
at Clause r word = within_clause r word (literal_of word)
at Klause r word = within_klause r word (literal_of word)

-- what a word makes of a reading, or its cause
abbrev pub after : Reading → List ℕ → Result Reading ℕ
after r word = at r.place r word

-- Words are read up to the first that has a cause.
infixl 10 ◌>>=◌
abbrev pub ◌>>=◌ : Result Reading ℕ → (Reading → Result Reading ℕ) → Result Reading ℕ
Ok r >>= next = next r
Err cause >>= next = Err cause

abbrev pub after_words : Reading → List (List ℕ) → Result Reading ℕ
after_words r [] = Ok r
after_words r (word ∷ words) = after r word >>= λ next. after_words next words

-- Where the constraints are complete, a line whose first word begins with `%` ends them.
abbrev pub is_percent : List (List ℕ) → Bool
is_percent ((b ∷ word) ∷ words) = b == 37
is_percent _ = false

abbrev pub is_between : Place → Bool
is_between Between = true
is_between _ = false

abbrev pub is_done : Reading → Bool
is_done r = is_between r.place && is_full r

abbrev pub ends : Reading → List (List ℕ) → Bool
ends r words = is_done r && is_percent words

-- What is read where a text of so many lines ends.
abbrev pub refusal : ℕ → ℕ → Refusal
refusal line why = record { line = line; why = why }

abbrev pub at_end : ℕ → Reading → Result Problem Refusal
at_end last r =
    if is_between r.place then (if is_full r then Ok r.formula else Err (refusal last missing_constraint))
    else Err (refusal last unended)

-- A word of these lines is the first that has a cause: the words before it are read, and its line does not
-- end the constraints.
pub record IsBadWord (r : Reading) (lines : List Line) (fault : Refusal) : Type 0 where
  pub before : List Line
  pub line : Line
  pub behind : List Line
  pub front : List (List ℕ)
  pub word : List ℕ
  pub back : List (List ℕ)
  pub here : Reading
  pub parts : lines ≡ before ++ line ∷ behind
  pub words : line.words ≡ front ++ word ∷ back
  pub read : after_words r (words_in before ++ front) ≡ Ok here
  pub body : front ≡ [] → ends here line.words ≡ false
  pub cause : after here word ≡ Err fault.why
  pub number : fault.line ≡ line.number

-- All words of these lines are read, and the text should not end there.
pub record IsBadEnd (last : ℕ) (r : Reading) (lines : List Line) (fault : Refusal) : Type 0 where
  pub here : Reading
  pub read : after_words r (words_in lines) ≡ Ok here
  pub cause : at_end last here ≡ Err fault

-- the first fault of the lines that are neither blank nor comments, of a text of so many lines
abbrev pub IsFaultIn : ℕ → List Line → Refusal → Type 0
IsFaultIn last [] fault = fault ≡ refusal last no_header
IsFaultIn last (problem ∷ lines) fault =
    ((header_of problem.words ≡ Err fault.why) × (fault.line ≡ problem.number))
    ⊎ ((h : Header) × (header_of problem.words ≡ Ok h) × (IsBadWord (start h) lines fault ⊎ IsBadEnd last (start h) lines fault))

-- The text spells no formula; its first fault is on this line, and has this cause.
abbrev pub IsFirstFault : List ℕ → Refusal → Type 0
IsFirstFault bytes fault = IsFaultIn (length (lines_of bytes)) (content_of bytes) fault
