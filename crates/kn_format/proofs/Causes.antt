-- Which causes a problem line can have, and which a word behind it.
use Rattle.std.proofs.Common.{◌≡◌, ℕ, ◌≤◌, nat_lt, Bool, true, false, if◌then◌else◌, List, [], ◌∷◌, Option, Some, None, Ok, Err, subst, arith}
use Rattle.std.specs.Prelude.{Result, codes}
use Rattle.std.specs.Str.{bytes_eq}
use Rattle.kn_logic.specs.Literals.{Literal, names}
use Rattle.kn_logic.specs.Constraints.{Bounded, clause, named}
use Rattle.kn_text.specs.Numbers.{number_of, literal_of, is_end}
use Rattle.kn_format.specs.declared.format.Format.{Format}
use Rattle.kn_format.specs.declared.header.Header.{Header}
use Rattle.kn_format.specs.declared.place.Place.{Place}
use Rattle.kn_format.specs.declared.place.Place.TheVariants.{Between, Guard, Bound, Clause, Klause}
use Rattle.kn_format.specs.Grammar.{most_variables, most_constraints, highest_bound}
use Rattle.kn_format.specs.Faults.{Reading, nothing, is_full, is_above, marks, begin, first_word, guard, bound, end, within_clause, within_klause, at, no_header, bad_header, too_many_variables, too_many_constraints, bad_token, variable_above_header, bound_too_large, repeated_variable, extra_constraint, within_limits, format_of, header_from, header_behind, header_of}

-- the causes of a word
abbrev pub IsOfWord : ℕ → Type 0
IsOfWord cause = (bad_token ≤ cause) × (cause ≤ extra_constraint)

abbrev IsOfHeader : ℕ → Type 0
IsOfHeader cause = cause ≤ too_many_constraints

either : {A : Type 0} (P : ℕ → Type 0) (t : Bool) (x y : Result A ℕ) (cause : ℕ) → (x ≡ Err cause → P cause) → (y ≡ Err cause → P cause) → (if t then x else y) ≡ Err cause → P cause
either P true x y cause one other e = one e
either P false x y cause one other e = other e

abbrev taken : {A : Type 0} → A → Result A ℕ
taken r = Ok r

abbrev caused : (A : Type 0) → ℕ → Result A ℕ
caused A cause = Err cause

not_taken : {A : Type 0} (P : ℕ → Type 0) (r : A) (cause : ℕ) → taken r ≡ Err cause → P cause
not_taken P r cause e = absurd cc

this_one : (A : Type 0) (P : ℕ → Type 0) (d cause : ℕ) → P d → caused A d ≡ Err cause → P cause
this_one A P d cause holds e = let same : d ≡ cause = cc in subst P same holds

-- a word
bad : (cause : ℕ) → caused Reading bad_token ≡ Err cause → IsOfWord cause
bad cause e = this_one Reading IsOfWord bad_token cause (omega arith, omega arith) e

above : (cause : ℕ) → caused Reading variable_above_header ≡ Err cause → IsOfWord cause
above cause e = this_one Reading IsOfWord variable_above_header cause (omega arith, omega arith) e

large : (cause : ℕ) → caused Reading bound_too_large ≡ Err cause → IsOfWord cause
large cause e = this_one Reading IsOfWord bound_too_large cause (omega arith, omega arith) e

repeated : (cause : ℕ) → caused Reading repeated_variable ≡ Err cause → IsOfWord cause
repeated cause e = this_one Reading IsOfWord repeated_variable cause (omega arith, omega arith) e

extra : (cause : ℕ) → caused Reading extra_constraint ≡ Err cause → IsOfWord cause
extra cause e = this_one Reading IsOfWord extra_constraint cause (omega arith, omega arith) e

beginning : (r : Reading) (place : Place) (begun : Bounded) (cause : ℕ) → begin r place begun ≡ Err cause → IsOfWord cause
beginning r place begun cause e = either IsOfWord (is_full r) _ _ cause (extra cause) (not_taken IsOfWord _ cause) e

ending : (r : Reading) (word : List ℕ) (cause : ℕ) → end r word ≡ Err cause → IsOfWord cause
ending r word cause e = either IsOfWord (is_end word) _ _ cause (not_taken IsOfWord _ cause) (bad cause) e

first_cause : (r : Reading) (word : List ℕ) (o : Option Literal) (cause : ℕ) → first_word r word o ≡ Err cause → IsOfWord cause
first_cause r word (Some l) cause e = either IsOfWord (is_above r l) _ _ cause (above cause) (beginning r Clause (clause (l ∷ [])) cause) e
first_cause r word None cause e = either IsOfWord (is_end word) _ _ cause (either IsOfWord (is_full r) _ _ cause (extra cause) (not_taken IsOfWord _ cause)) (bad cause) e

guard_cause : (r : Reading) (o : Option Literal) (cause : ℕ) → guard r o ≡ Err cause → IsOfWord cause
guard_cause r None cause e = bad cause e
guard_cause r (Some l) cause e = either IsOfWord (is_above r l) _ _ cause (above cause) (not_taken IsOfWord _ cause) e

bound_cause : (r : Reading) (o : Option ℕ) (cause : ℕ) → bound r o ≡ Err cause → IsOfWord cause
bound_cause r None cause e = bad cause e
bound_cause r (Some n) cause e = either IsOfWord (nat_lt highest_bound n) _ _ cause (large cause) (not_taken IsOfWord _ cause) e

clause_cause : (r : Reading) (word : List ℕ) (o : Option Literal) (cause : ℕ) → within_clause r word o ≡ Err cause → IsOfWord cause
clause_cause r word None cause e = ending r word cause e
clause_cause r word (Some l) cause e = either IsOfWord (is_above r l) _ _ cause (above cause) (not_taken IsOfWord _ cause) e

klause_cause : (r : Reading) (word : List ℕ) (o : Option Literal) (cause : ℕ) → within_klause r word o ≡ Err cause → IsOfWord cause
klause_cause r word None cause e = ending r word cause e
klause_cause r word (Some l) cause e =
    either IsOfWord (is_above r l) _ _ cause (above cause)
    (either IsOfWord (names (named r.begun) l.variable) _ _ cause (repeated cause) (not_taken IsOfWord _ cause)) e

pub word_cause : (place : Place) (r : Reading) (word : List ℕ) (cause : ℕ) → at place r word ≡ Err cause → IsOfWord cause
word_cause Between r word cause e =
    either IsOfWord (marks r.format word (codes "k")) _ _ cause (beginning r Bound nothing cause)
    (either IsOfWord (marks r.format word (codes "q")) _ _ cause (beginning r Guard nothing cause) (first_cause r word (literal_of word) cause)) e
word_cause Guard r word cause e = guard_cause r (literal_of word) cause e
word_cause Bound r word cause e = bound_cause r (number_of word) cause e
word_cause Clause r word cause e = clause_cause r word (literal_of word) cause e
word_cause Klause r word cause e = klause_cause r word (literal_of word) cause e

-- the problem line
none : (cause : ℕ) → caused Header no_header ≡ Err cause → IsOfHeader cause
none cause e = this_one Header IsOfHeader no_header cause (omega arith) e

malformed : (cause : ℕ) → caused Header bad_header ≡ Err cause → IsOfHeader cause
malformed cause e = this_one Header IsOfHeader bad_header cause (omega arith) e

many_variables : (cause : ℕ) → caused Header too_many_variables ≡ Err cause → IsOfHeader cause
many_variables cause e = this_one Header IsOfHeader too_many_variables cause (omega arith) e

many_constraints : (cause : ℕ) → caused Header too_many_constraints ≡ Err cause → IsOfHeader cause
many_constraints cause e = this_one Header IsOfHeader too_many_constraints cause (omega arith) e

limits_cause : (h : Header) (cause : ℕ) → within_limits h ≡ Err cause → IsOfHeader cause
limits_cause h cause e =
    either IsOfHeader (nat_lt most_variables h.vars) _ _ cause (many_variables cause)
    (either IsOfHeader (nat_lt most_constraints h.count) _ _ cause (many_constraints cause) (not_taken IsOfHeader h cause)) e

numbers_cause : (format : Option Format) (vars count : Option ℕ) (cause : ℕ) → header_from format vars count ≡ Err cause → IsOfHeader cause
numbers_cause (Some format) (Some vars) (Some count) cause e = limits_cause (record { format = format; vars = vars; count = count }) cause e
numbers_cause None vars count cause e = malformed cause e
numbers_cause (Some format) None count cause e = malformed cause e
numbers_cause (Some format) (Some vars) None cause e = malformed cause e

rest_cause : (words : List (List ℕ)) (cause : ℕ) → header_behind words ≡ Err cause → IsOfHeader cause
rest_cause [] cause e = malformed cause e
rest_cause (name ∷ []) cause e = malformed cause e
rest_cause (name ∷ vars ∷ []) cause e = malformed cause e
rest_cause (name ∷ vars ∷ count ∷ []) cause e = numbers_cause (format_of name) (number_of vars) (number_of count) cause e
rest_cause (name ∷ vars ∷ count ∷ word ∷ words) cause e = malformed cause e

pub header_cause : (words : List (List ℕ)) (cause : ℕ) → header_of words ≡ Err cause → cause ≤ too_many_constraints
header_cause [] cause e = none cause e
header_cause (word ∷ words) cause e = either IsOfHeader (bytes_eq word (codes "p")) _ _ cause (rest_cause words cause) (none cause) e
