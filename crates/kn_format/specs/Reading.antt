-- What the reader does line by line, what its functions return, unless memory is short, and what it keeps.
use Rattle.std.specs.Prelude.{ℕ, ◌≡◌, Bool, true, false, if◌then◌else◌, List, [], ◌∷◌, length, Result, Ok, Err}
use Rattle.kn_logic.specs.Literals.{AreDifferent, names}
use Rattle.kn_logic.specs.Constraints.{Bounded, IsWithin, is_clause, named}
use Rattle.kn_logic.specs.Formulas.{Problem}
use Rattle.kn_format.specs.declared.error.Refusal.{Refusal}
use Rattle.kn_format.specs.declared.error.ReadError.{ReadError}
use Rattle.kn_format.specs.declared.error.ReadError.TheVariants.{Refused, Memory}
use Rattle.kn_format.specs.declared.place.Place.{Place}
use Rattle.kn_format.specs.declared.place.Place.TheVariants.{Between, Guard, Bound, Clause, Klause}
use Rattle.kn_text.specs.Lines.{Line, lines_of, content_of}
use Rattle.kn_format.specs.declared.header.Header.{Header}
use Rattle.kn_format.specs.Faults.{Reading, start, after_words, ends, at_end, refusal, no_header, header_of}

-- Going on behind a line of this number, unless a word of it has a cause.
abbrev pub go_on : ℕ → Result Reading ℕ → (Reading → Result Problem Refusal) → Result Problem Refusal
go_on number (Ok r) next = next r
go_on number (Err cause) next = Err (refusal number cause)

abbrev pub after_lines : ℕ → Reading → List Line → Result Problem Refusal
after_lines last r [] = at_end last r
after_lines last r (line ∷ lines) =
    if ends r line.words then Ok r.formula
    else go_on line.number (after_words r line.words) (λ next. after_lines last next lines)

abbrev pub behind_header : ℕ → ℕ → Result Header ℕ → List Line → Result Problem Refusal
behind_header last number (Err cause) lines = Err (refusal number cause)
behind_header last number (Ok h) lines = after_lines last (start h) lines

abbrev pub read_lines : ℕ → List Line → Result Problem Refusal
read_lines last [] = Err (refusal last no_header)
read_lines last (line ∷ lines) = behind_header last line.number (header_of line.words) lines

-- the formula that a text spells, or its first fault
abbrev pub read_of : List ℕ → Result Problem Refusal
read_of bytes = read_lines (length (lines_of bytes)) (content_of bytes)

-- what a call that read on in a line of this number returned, and the reading that it left
abbrev pub Took : {T : Type 0} → ℕ → Result Reading ℕ → Result T ReadError → Reading → Type 0
Took number read (Ok _) left = read ≡ Ok left
Took number read (Err Memory) left = Unit {0}
Took number read (Err (Refused r)) left = (read ≡ Err r.why) × (r.line ≡ number)

-- what a call that read to the end of the text returned
abbrev pub Gives : Result Problem Refusal → Result Problem ReadError → Type 0
Gives read (Ok f) = read ≡ Ok f
Gives read (Err Memory) = Unit {0}
Gives read (Err (Refused r)) = read ≡ Err r

-- whether a klause is begun
abbrev pub is_marked : Place → Bool
is_marked Between = false
is_marked Guard = true
is_marked Bound = true
is_marked Clause = false
is_marked Klause = true

pub record Keeps (vars : ℕ) (place : Place) (begun : Bounded) (has_seen : ℕ → Bool) : Type 0 where
  pub within : IsWithin vars begun
  pub clause : place ≡ Clause → is_clause begun ≡ true
  pub different : is_marked place ≡ true → AreDifferent (named begun)
  pub seen : is_marked place ≡ true → (v : ℕ) → has_seen v ≡ names (named begun) v

-- what the reader answers of a text that spells the formula
abbrev pub ReadsAs : Problem → Result Problem ReadError → Type 0
ReadsAs f (Ok g) = g ≡ f
ReadsAs f (Err Memory) = Unit {0}
ReadsAs f (Err (Refused r)) = ⊥

-- what it answers of a text whose first fault is this one
abbrev pub RefusesAs : Refusal → Result Problem ReadError → Type 0
RefusesAs fault (Ok f) = ⊥
RefusesAs fault (Err Memory) = Unit {0}
RefusesAs fault (Err (Refused r)) = r ≡ fault

abbrev pub IfRefused : {T : Type 0} → Result T ReadError → (Refusal → Type 0) → Type 0
IfRefused (Ok _) P = Unit {0}
IfRefused (Err Memory) P = Unit {0}
IfRefused (Err (Refused r)) P = P r
