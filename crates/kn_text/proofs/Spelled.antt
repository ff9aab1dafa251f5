-- What is read of numbers and literals that were written.
use Rattle.std.proofs.Common.{◌≡◌, ℕ, ◌+◌, ◌-◌, ◌*◌, ◌/◌, ◌%◌, ◌<◌, ◌≤◌, ◌^◌, ◌==◌, nat_lt, Bool, true, false, if◌then◌else◌, List, [], ◌∷◌, ◌++◌, length, length-append, Option, Some, None, refl, sym, ap, ◌∙◌, arith}
use Rattle.std.proofs.Math.Nat.{div-add-mod}
use Rattle.std.proofs.lemmas.Bool.{ltb-true}
use Rattle.std.proofs.lemmas.Bool.Decides.{nat_tests}
use Rattle.std.proofs.lemmas.Fmt.{decimal_by_steps}
use Rattle.std.specs.Prelude.{option_and_then, decimal, slice_index}
use Rattle.std.specs.Char.{is_ascii_digit}
use Rattle.std.specs.List.{AllByRecursion}
use Rattle.kn_logic.specs.Literals.{Literal}
use Rattle.kn_text.specs.Lines.{is_skipped, StandsInWord, IsPlain}
use Rattle.kn_text.specs.Numbers.{value_behind, fitting, number_of, literal_from, literal_of, is_zero, is_end, literal_word, IsDigit, IsWritable}
use Rattle.kn_text.proofs.Values.{fitting_small}

digit_is : (d : ℕ) → d < 10 → IsDigit (48 + d)
digit_is d h = grind (arith, nat_tests)

digit_stands_in_word : (b : ℕ) → IsDigit b → StandsInWord b
digit_stands_in_word b h = (grind (arith, nat_tests), grind (arith, nat_tests))

digits_stand_in_word : (digits : List ℕ) → AllByRecursion IsDigit digits → AllByRecursion StandsInWord digits
digits_stand_in_word [] all = tt
digits_stand_in_word (b ∷ digits) all = (digit_stands_in_word b all.0, digits_stand_in_word digits all.1)

all_digits_more : (digits : List ℕ) (b : ℕ) → AllByRecursion IsDigit digits → IsDigit b → AllByRecursion IsDigit (digits ++ b ∷ [])
all_digits_more [] b all last = (last, tt)
all_digits_more (c ∷ digits) b all last = (all.0, all_digits_more digits b all.1 last)

value_behind_digit : (value d : ℕ) → d < 10 → value_behind value ((48 + d) ∷ []) ≡ Some (10 * value + d)
value_behind_digit value d h = let e : is_ascii_digit (48 + d) ≡ true = digit_is d h in rw e (ap Some (omega arith))

value_behind_more : (digits : List ℕ) (d value n : ℕ) → d < 10 → AllByRecursion IsDigit digits → value_behind value digits ≡ Some n → value_behind value (digits ++ (48 + d) ∷ []) ≡ Some (10 * n + d)
value_behind_more [] d value n h all e = value_behind_digit value d h ∙ ap (λ o. option_and_then (λ v. Some (10 * v + d)) o) e
value_behind_more (b ∷ digits) d value n h all e =
    let digit : is_ascii_digit b ≡ true = all.0 in
    let rest : value_behind (10 * value + (b - 48)) digits ≡ Some n = sym (rw digit refl) ∙ e in
    rw digit (value_behind_more digits d (10 * value + (b - 48)) n h all.1 rest)

-- what is known of the digits of a number
record Spells (n : ℕ) (digits : List ℕ) : Type 0 where
  value : value_behind 0 digits ≡ Some n
  filled : 0 < length digits
  all : AllByRecursion IsDigit digits

spells_digit : (n : ℕ) → n < 10 → Spells n ((48 + n) ∷ [])
spells_digit n h = record { value = value_behind_digit 0 n h ∙ ap Some (omega arith); filled = omega arith; all = (digit_is n h, tt) }

spells_more : (n : ℕ) (digits : List ℕ) → 10 ≤ n → Spells (n / 10) digits → Spells n (digits ++ (48 + n % 10) ∷ [])
spells_more n digits h front =
    let small : n % 10 < 10 = omega arith in
    record {
      value = value_behind_more digits (n % 10) 0 (n / 10) small front.all front.value ∙ ap Some (div-add-mod n 10);
      filled = rw length-append (omega arith);
      all = all_digits_more digits (48 + n % 10) front.all (digit_is (n % 10) small);
    }

spells_decimal : (n : ℕ) → n < 2 ^ 64 → Spells n (decimal n)
spells_decimal n h = decimal_by_steps Spells spells_digit spells_more n h

number_of_spelled : (digits : List ℕ) (n : ℕ) → n < 2 ^ 64 → Spells n digits → number_of digits ≡ Some n
number_of_spelled [] n h s = absurd (omega (arith, s.filled))
number_of_spelled (b ∷ digits) n h s = ap (λ o. option_and_then fitting o) s.value ∙ fitting_small n h

pub number_of_decimal : (n : ℕ) → n < 2 ^ 64 → number_of (decimal n) ≡ Some n
number_of_decimal n h = number_of_spelled (decimal n) n h (spells_decimal n h)

pub decimal_is_plain : (n : ℕ) → n < 2 ^ 64 → IsPlain (decimal n)
decimal_is_plain n h = let s : Spells n (decimal n) = spells_decimal n h in (s.filled, digits_stand_in_word (decimal n) s.all)

pub decimal_is_digits : (n : ℕ) → n < 2 ^ 64 → AllByRecursion IsDigit (decimal n)
decimal_is_digits n h = let s : Spells n (decimal n) = spells_decimal n h in s.all

first_is_digit : (digits : List ℕ) → 0 < length digits → AllByRecursion IsDigit digits → IsDigit (slice_index digits 0)
first_is_digit [] filled all = absurd (omega (arith, filled))
first_is_digit (b ∷ digits) filled all = all.0

pub decimal_begins_with_digit : (n : ℕ) → n < 2 ^ 64 → IsDigit (slice_index (decimal n) 0)
decimal_begins_with_digit n h = let s : Spells n (decimal n) = spells_decimal n h in first_is_digit (decimal n) s.filled s.all

-- a word of a digit first spells a literal where it spells a number
literal_of_digits : (word : List ℕ) → 0 < length word → AllByRecursion IsDigit word → literal_of word ≡ option_and_then (literal_from true) (number_of word)
literal_of_digits [] filled all = refl
literal_of_digits (b ∷ word) filled all = let digit : IsDigit b = all.0 in let e : (b == 45) ≡ false = grind (arith, nat_tests) in rw e refl

literal_from_variable : (positive : Bool) (variable : ℕ) → 1 ≤ variable → literal_from positive variable ≡ Some (record { variable = variable; positive = positive })
literal_from_variable positive variable h = let e : (variable == 0) ≡ false = grind (arith, nat_tests) in rw e refl

literal_of_written : (positive : Bool) (variable : ℕ) → 1 ≤ variable → variable < 2 ^ 64 → literal_of (literal_word (record { variable = variable; positive = positive })) ≡ Some (record { variable = variable; positive = positive })
literal_of_written true variable low high =
    let s : Spells variable (decimal variable) = spells_decimal variable high in
    literal_of_digits (decimal variable) s.filled s.all
    ∙ ap (λ o. option_and_then (literal_from true) o) (number_of_decimal variable high)
    ∙ literal_from_variable true variable low
literal_of_written false variable low high =
    ap (λ o. option_and_then (literal_from false) o) (number_of_decimal variable high) ∙ literal_from_variable false variable low

-- a literal is read as it was written
pub literal_of_word : (l : Literal) → IsWritable l → literal_of (literal_word l) ≡ Some l
literal_of_word l h = literal_of_written l.positive l.variable h.0 h.1

minus_is_plain : (digits : List ℕ) → IsPlain digits → IsPlain (45 ∷ digits)
minus_is_plain digits plain = (omega arith, ((refl, refl), plain.1))

written_is_plain : (positive : Bool) (variable : ℕ) → variable < 2 ^ 64 → IsPlain (literal_word (record { variable = variable; positive = positive }))
written_is_plain true variable h = decimal_is_plain variable h
written_is_plain false variable h = minus_is_plain (decimal variable) (decimal_is_plain variable h)

pub literal_word_is_plain : (l : Literal) → l.variable < 2 ^ 64 → IsPlain (literal_word l)
literal_word_is_plain l h = written_is_plain l.positive l.variable h

number_of_written : (positive : Bool) (variable : ℕ) → variable < 2 ^ 64 → number_of (literal_word (record { variable = variable; positive = positive })) ≡ (if positive then Some variable else None)
number_of_written true variable h = number_of_decimal variable h
number_of_written false variable h = refl

-- the word of a negative literal spells no number
pub number_of_literal : (l : Literal) → l.variable < 2 ^ 64 → number_of (literal_word l) ≡ (if l.positive then Some l.variable else None)
number_of_literal l h = number_of_written l.positive l.variable h

abbrev value_or_zero : Option ℕ → ℕ
value_or_zero None = 0
value_or_zero (Some n) = n

below-at : (value n : ℕ) (t : Bool) → nat_lt value (2 ^ 64) ≡ t → fitting value ≡ Some n → n < 2 ^ 64
below-at value n true small e = let some : Some value ≡ Some n = sym (rw small refl) ∙ e in let same : value ≡ n = ap value_or_zero some in omega (arith, same, ltb-true value (2 ^ 64) small)
below-at value n false large e = let none : None ≡ Some n = sym (rw large refl) ∙ e in absurd cc

fitting_below : (o : Option ℕ) (n : ℕ) → option_and_then fitting o ≡ Some n → n < 2 ^ 64
fitting_below None n e = absurd cc
fitting_below (Some value) n e = below-at value n (nat_lt value (2 ^ 64)) refl e

-- a number of a word fits 64 bits
pub number_of_below : (word : List ℕ) (n : ℕ) → number_of word ≡ Some n → n < 2 ^ 64
number_of_below [] n e = absurd cc
number_of_below (b ∷ digits) n e = fitting_below (value_behind 0 (b ∷ digits)) n e

abbrev variable_or_zero : Option Literal → ℕ
variable_or_zero None = 0
variable_or_zero (Some l) = l.variable

counted-at : (positive : Bool) (variable : ℕ) (l : Literal) (t : Bool) → (variable == 0) ≡ t → literal_from positive variable ≡ Some l → (1 ≤ l.variable) × (variable ≡ l.variable)
counted-at positive variable l true zero e = let none : None ≡ Some l = sym (rw zero refl) ∙ e in absurd cc
counted-at positive variable l false more e =
    let some : Some (record { variable = variable; positive = positive }) ≡ Some l = sym (rw more refl) ∙ e in
    let same : variable ≡ l.variable = ap variable_or_zero some in
    let low : 1 ≤ variable = grind (arith, nat_tests) in
    (omega arith, same)

-- the number that a literal is made of is its variable
literal_from_is : (positive : Bool) (variable : ℕ) (l : Literal) → literal_from positive variable ≡ Some l → (1 ≤ l.variable) × (variable ≡ l.variable)
literal_from_is positive variable l e = counted-at positive variable l (variable == 0) refl e

writable_from : (positive : Bool) (o : Option ℕ) (l : Literal) → ((n : ℕ) → o ≡ Some n → n < 2 ^ 64) → option_and_then (literal_from positive) o ≡ Some l → IsWritable l
writable_from positive None l below e = absurd cc
writable_from positive (Some n) l below e =
    let is : (1 ≤ l.variable) × (n ≡ l.variable) = literal_from_is positive n l e in
    (is.0, omega (arith, is.1, below n refl))

writable-at : (word : List ℕ) (b : ℕ) (l : Literal) (t : Bool) → (b == 45) ≡ t → literal_of (b ∷ word) ≡ Some l → IsWritable l
writable-at word b l true minus e = writable_from false (number_of word) l (number_of_below word) (sym (rw minus refl) ∙ e)
writable-at word b l false other e = writable_from true (number_of (b ∷ word)) l (number_of_below (b ∷ word)) (sym (rw other refl) ∙ e)

-- the variable of a literal of a word is at least 1, and fits 64 bits
pub literal_of_writable : (word : List ℕ) (l : Literal) → literal_of word ≡ Some l → IsWritable l
literal_of_writable [] l e = absurd cc
literal_of_writable (b ∷ word) l e = writable-at word b l (b == 45) refl e

no_zero_from : (positive : Bool) (o : Option ℕ) (l : Literal) → option_and_then (literal_from positive) o ≡ Some l → is_zero o ≡ false
no_zero_from positive None l e = absurd cc
no_zero_from positive (Some n) l e =
    let is : (1 ≤ l.variable) × (n ≡ l.variable) = literal_from_is positive n l e in
    let low : 1 ≤ n = omega (arith, is.0, is.1) in
    grind (arith, nat_tests)

no_end-at : (word : List ℕ) (b : ℕ) (l : Literal) (t : Bool) → (b == 45) ≡ t → literal_of (b ∷ word) ≡ Some l → is_end (b ∷ word) ≡ false
no_end-at word b l true minus e = let other : is_ascii_digit b ≡ false = grind (arith, nat_tests) in rw other refl
no_end-at word b l false other e = no_zero_from true (number_of (b ∷ word)) l (sym (rw other refl) ∙ e)

-- no word is both a literal and the end of a list
pub literal_is_no_end : (word : List ℕ) (l : Literal) → literal_of word ≡ Some l → is_end word ≡ false
literal_is_no_end [] l e = absurd cc
literal_is_no_end (b ∷ word) l e = no_end-at word b l (b == 45) refl e

pub literal_word_is_no_end : (l : Literal) → IsWritable l → is_end (literal_word l) ≡ false
literal_word_is_no_end l h = literal_is_no_end (literal_word l) l (literal_of_word l h)

digits_not_skipped : (digits : List ℕ) (words : List (List ℕ)) → AllByRecursion IsDigit digits → 0 < length digits → is_skipped (digits ∷ words) ≡ false
digits_not_skipped [] words all filled = refl
digits_not_skipped (b ∷ digits) words all filled = let digit : IsDigit b = all.0 in grind (arith, nat_tests)

-- a line that begins with a number is not skipped
pub decimal_not_skipped : (n : ℕ) (words : List (List ℕ)) → n < 2 ^ 64 → is_skipped (decimal n ∷ words) ≡ false
decimal_not_skipped n words h = let s : Spells n (decimal n) = spells_decimal n h in digits_not_skipped (decimal n) words s.all s.filled

written_not_skipped : (positive : Bool) (variable : ℕ) (words : List (List ℕ)) → variable < 2 ^ 64 → is_skipped (literal_word (record { variable = variable; positive = positive }) ∷ words) ≡ false
written_not_skipped true variable words h = decimal_not_skipped variable words h
written_not_skipped false variable words h = refl

-- a line that begins with a literal is not skipped
pub literal_not_skipped : (l : Literal) (words : List (List ℕ)) → l.variable < 2 ^ 64 → is_skipped (literal_word l ∷ words) ≡ false
literal_not_skipped l words h = written_not_skipped l.positive l.variable words h
