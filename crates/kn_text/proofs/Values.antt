-- What digits stand for.
use Rattle.std.proofs.Common.{◌≡◌, ℕ, suc, ◌+◌, ◌-◌, ◌*◌, ◌<◌, ◌≤◌, ◌^◌, nat_lt, Bool, true, false, List, [], ◌∷◌, length, drop, get_or, Option, Some, None, refl, sym, ap, ◌∙◌, drop-cons, arith}
use Rattle.std.proofs.lemmas.Bool.{lt-ltb, le-ltb}
use Rattle.std.proofs.lemmas.List.{drop_all}
use Rattle.std.specs.Prelude.{option_and_then}
use Rattle.std.specs.Char.{is_ascii_digit}
use Rattle.kn_text.specs.Numbers.{value_behind, fitting}

-- what digits spell behind digits of this value
abbrev pub spelled : ℕ → List ℕ → Option ℕ
spelled value digits = option_and_then fitting (value_behind value digits)

pub fitting_small : (value : ℕ) → value < 2 ^ 64 → fitting value ≡ Some value
fitting_small value h = let e : nat_lt value (2 ^ 64) ≡ true = lt-ltb value (2 ^ 64) h in rw e refl

pub fitting_large : (value : ℕ) → 2 ^ 64 ≤ value → fitting value ≡ None
fitting_large value h = let e : nat_lt value (2 ^ 64) ≡ false = le-ltb value (2 ^ 64) h in rw e refl

too_large-at : (digits : List ℕ) (b value : ℕ) (t : Bool) → is_ascii_digit b ≡ t → 2 ^ 64 ≤ value → ((v : ℕ) → 2 ^ 64 ≤ v → spelled v digits ≡ None) → spelled value (b ∷ digits) ≡ None
too_large-at digits b value true e h more = rw e (more (10 * value + (b - 48)) (omega arith))
too_large-at digits b value false e h more = rw e refl

-- no digits behind a value that is too large make a number
pub too_large : (digits : List ℕ) (value : ℕ) → 2 ^ 64 ≤ value → spelled value digits ≡ None
too_large [] value h = fitting_large value h
too_large (b ∷ digits) value h = too_large-at digits b value (is_ascii_digit b) refl h (too_large digits)

digit_step : (digits : List ℕ) (b value : ℕ) → is_ascii_digit b ≡ true → spelled value (b ∷ digits) ≡ spelled (10 * value + (b - 48)) digits
digit_step digits b value e = rw e refl

pub stops_too_large : (word : List ℕ) (i value : ℕ) (r : Option ℕ) → i < length word → is_ascii_digit (get_or word i 0) ≡ true → 2 ^ 64 ≤ 10 * value + (get_or word i 0 - 48) → spelled value (drop i word) ≡ r → None ≡ r
stops_too_large word i value r low digit large whole =
    sym (too_large (drop (suc i) word) _ large)
    ∙ sym (digit_step (drop (suc i) word) (get_or word i 0) value digit)
    ∙ ap (spelled value) (sym (drop-cons word i 0 low))
    ∙ whole

pub ends_at_value : (word : List ℕ) (i value : ℕ) (r : Option ℕ) → length word ≤ i → value < 2 ^ 64 → spelled value (drop i word) ≡ r → Some value ≡ r
ends_at_value word i value r behind small whole =
    sym (fitting_small value small) ∙ ap (spelled value) (sym (drop_all i word behind)) ∙ whole
