-- How the needed lines are found: from the last line to the first.
use Rattle.std.specs.Prelude.{ℕ, zero, suc, ◌+◌, ◌-◌, ◌≤◌, Bool, true, false, not, ◌&&◌, ◌||◌, if◌then◌else◌, List, [], ◌∷◌, set, replicate, length}
use Rattle.std.specs.List.{AllByRecursion}
use Rattle.kn_logic.specs.Formulas.{Problem}
use Rattle.kn_lines.specs.declared.line.Line.{Line}
use Rattle.kn_trim.specs.Numbers.{mark_at}
use Rattle.kn_trim.specs.Needed.{Kept, ids_given, variables_given, named_ids, named_variables, is_end}

-- these numbers are marked too
abbrev pub with_marks : List Bool → List ℕ → List Bool
with_marks marks [] = marks
with_marks marks (n ∷ numbers) = with_marks (set marks (n - 1) true) numbers

-- whether one of so many places from this one on is marked
abbrev pub is_any : List Bool → ℕ → ℕ → Bool
is_any marks place zero = false
is_any marks place (suc count) = mark_at marks place || is_any marks (place + 1) count

-- what is needed of what was given, and which lines are
pub record Marked : Type 0 where
  pub own : List Bool
  pub need : Kept

-- how much was given before a line, and whether a line has refuted
pub record Place : Type 0 where
  pub variables : ℕ
  pub ids : ℕ
  pub refuted : Bool

abbrev pub behind : Place → Line → Place
behind p line = record { variables = p.variables + variables_given line; ids = p.ids + ids_given line; refuted = p.refuted || is_end line }

abbrev pub is_needed : Place → Line → Kept → Bool
is_needed p line need = (not p.refuted && is_end line) || (is_any need.variables p.variables (variables_given line) || is_any need.ids p.ids (ids_given line))

abbrev pub with_line : Kept → Line → Kept
with_line need line = record { variables = with_marks need.variables (named_variables line); ids = with_marks need.ids (named_ids line) }

abbrev pub with_mark : Bool → Line → Marked → Marked
with_mark m line rest = record { own = m ∷ rest.own; need = if m then with_line rest.need line else rest.need }

-- the marks of the lines from this place on
abbrev pub marked : Kept → Place → List Line → Marked
marked none p [] = record { own = []; need = none }
marked none p (line ∷ lines) = with_mark (is_needed p line (marked none (behind p line) lines).need) line (marked none (behind p line) lines)

-- the numbers are of what was given before
abbrev pub AreBefore : ℕ → List ℕ → Type 0
AreBefore count numbers = AllByRecursion (λ n. (1 ≤ n) × (n ≤ count)) numbers

abbrev pub NameBefore : Place → List Line → Type 0
NameBefore p [] = Unit {0}
NameBefore p (line ∷ lines) = (AreBefore p.variables (named_variables line) × AreBefore p.ids (named_ids line)) × NameBefore (behind p line) lines

-- the marks have room for all that was given before each line
abbrev pub HasRoom : Kept → Place → List Line → Type 0
HasRoom none p [] = Unit {0}
HasRoom none p (line ∷ lines) = ((p.variables ≤ length none.variables) × (p.ids ≤ length none.ids)) × HasRoom none (behind p line) lines

-- the place of the line that so many lines precede
abbrev pub place_at : Place → List Line → ℕ → Place
place_at p [] n = p
place_at p (line ∷ lines) zero = p
place_at p (line ∷ lines) (suc n) = place_at (behind p line) lines n

-- how many lines precede the first one that refutes
abbrev pub first_end : List Line → ℕ
first_end [] = 0
first_end (line ∷ lines) = if is_end line then 0 else first_end lines + 1

-- the place behind the header of a proof for this formula
abbrev pub place_of : Problem → Place
place_of f = record { variables = f.vars; ids = length f.constraints; refuted = false }

-- nothing is needed of so many variables and ids
abbrev pub none_of : ℕ → ℕ → Kept
none_of variables ids = record { variables = replicate variables false; ids = replicate ids false }
