-- Numbers and literals as words. A number is one or more decimal digits, leading zeros among them, with
-- a value of at most 2^64 - 1; a literal is a number of at least 1, or a `-` followed directly by one.
use Rattle.std.specs.Prelude.{ℕ, ◌≡◌, ◌≤◌, ◌<◌, ◌+◌, ◌-◌, ◌*◌, ◌^◌, ◌==◌, nat_lt, Bool, true, false, if◌then◌else◌, List, [], ◌∷◌, Option, Some, None, option_and_then, decimal}
use Rattle.std.specs.Char.{is_ascii_digit}
use Rattle.kn_logic.specs.Literals.{Literal}

-- what digits stand for behind digits of this value; none where there is another byte
abbrev pub value_behind : ℕ → List ℕ → Option ℕ
value_behind value [] = Some value
value_behind value (b ∷ digits) = if is_ascii_digit b then value_behind (10 * value + (b - 48)) digits else None

-- a value that a number may have
abbrev pub fitting : ℕ → Option ℕ
fitting value = if nat_lt value (2 ^ 64) then Some value else None

abbrev pub number_of : List ℕ → Option ℕ
number_of [] = None
number_of (b ∷ digits) = option_and_then fitting (value_behind 0 (b ∷ digits))

-- the literal of a variable, which is at least 1
abbrev pub literal_from : Bool → ℕ → Option Literal
literal_from positive variable = if variable == 0 then None else Some (record { variable = variable; positive = positive })

abbrev pub literal_of : List ℕ → Option Literal
literal_of [] = None
literal_of (b ∷ word) = if b == 45 then option_and_then (literal_from false) (number_of word) else option_and_then (literal_from true) (number_of (b ∷ word))

abbrev pub is_zero : Option ℕ → Bool
is_zero None = false
is_zero (Some value) = value == 0

-- whether a word ends a list: a number of value 0
abbrev pub is_end : List ℕ → Bool
is_end word = is_zero (number_of word)

-- how a literal is written
abbrev pub literal_word : Literal → List ℕ
literal_word l = if l.positive then decimal l.variable else 45 ∷ decimal l.variable

abbrev pub IsDigit : ℕ → Type 0
IsDigit b = is_ascii_digit b ≡ true

-- the literal of a variable that a word can name
abbrev pub IsWritable : Literal → Type 0
IsWritable l = (1 ≤ l.variable) × (l.variable < 2 ^ 64)
