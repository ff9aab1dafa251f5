-- Why a variable has no guess: the first test that fails, in the order of the tests.
use Rattle.std.specs.Prelude.{ℕ, ◌≡◌, ◌≤◌, ◌<◌, ◌&&◌, ◌||◌, Bool, true, false, List, [], ◌∷◌, length, filter}
use Rattle.std.specs.List.Sorted.{IsStrictlyIncreasing}
use Rattle.std.specs.List.{AllByRecursion}
use Rattle.kn_logic.specs.Constraints.{Bounded}
use Rattle.kn_logic.specs.Groups.{is_among}
use Rattle.kn_guess.specs.declared.error.NoGuess.{NoGuess}
use Rattle.kn_guess.specs.declared.error.NoGuess.TheVariants.{NotSeed, TooMany, SmallBorder, TooWideBorder, TwoSided, Memory}
use Rattle.kn_guess.specs.Guesses.{is_seed, IsClosedFrom, IsLeastFrom, touches, is_border}

-- no number stands twice
abbrev pub AreApart : List ℕ → Type 0
AreApart [] = Unit {0}
AreApart (x ∷ xs) = (is_among xs x ≡ false) × AreApart xs

-- each set that is closed from the seed has all these
abbrev pub AreForced : List Bounded → ℕ → List ℕ → Type 0
AreForced cs seed set = (other : List ℕ) → IsClosedFrom cs seed other → (x : ℕ) → is_among set x ≡ true → is_among other x ≡ true

-- More than 256 variables stand in each closed set, and so in the least.
abbrev pub IsTooMany : List Bounded → ℕ → Type 0
IsTooMany cs seed = (members : List ℕ) × (256 < length members) × AreApart members × AreForced cs seed members

-- some literal of the variable is one of the border
abbrev pub at_border : List Bounded → List ℕ → ℕ → Bool
at_border taken set x = is_border taken set (record { variable = x; positive = true }) || is_border taken set (record { variable = x; positive = false })

-- both literals are
abbrev pub is_two_sided : List Bounded → List ℕ → ℕ → Bool
is_two_sided taken set x = is_border taken set (record { variable = x; positive = true }) && is_border taken set (record { variable = x; positive = false })

-- all variables of the border, ascending
abbrev pub AreBorderVariables : List Bounded → List ℕ → List ℕ → Type 0
AreBorderVariables taken set variables = IsStrictlyIncreasing variables × ((x : ℕ) → is_among variables x ≡ at_border taken set x)

abbrev pub IsSmall : List Bounded → List ℕ → Type 0
IsSmall taken set = (variables : List ℕ) × AreBorderVariables taken set variables × (length variables < 3)

-- More than 128 variables stand at the border.
abbrev pub IsTooWide : List Bounded → List ℕ → Type 0
IsTooWide taken set = (variables : List ℕ) × (128 < length variables) × AreApart variables × AllByRecursion (λ x. at_border taken set x ≡ true) variables

-- The border has 3 to 128 variables, and this is the least of those that stand there in both polarities.
abbrev pub IsTwoSided : List Bounded → List ℕ → ℕ → Type 0
IsTwoSided taken set x = (variables : List ℕ) × AreBorderVariables taken set variables × (3 ≤ length variables) × (length variables ≤ 128)
    × (is_two_sided taken set x ≡ true) × ((y : ℕ) → y < x → is_two_sided taken set y ≡ false)

-- what refuses a set for its border
abbrev pub IsBorderRefused : List Bounded → List ℕ → NoGuess → Type 0
IsBorderRefused taken set NotSeed = ⊥
IsBorderRefused taken set TooMany = ⊥
IsBorderRefused taken set SmallBorder = IsSmall taken set
IsBorderRefused taken set TooWideBorder = IsTooWide taken set
IsBorderRefused taken set (TwoSided x) = IsTwoSided taken set x
IsBorderRefused taken set Memory = Unit {0}

-- The least set has at most 256 variables, and is refused for its border.
abbrev pub IsLeastRefused : List Bounded → ℕ → NoGuess → Type 0
IsLeastRefused cs seed why = (is_seed cs seed ≡ true) × ((set : List ℕ) × IsLeastFrom cs seed set × (length set ≤ 256) × IsBorderRefused (filter (touches set) cs) set why)

abbrev pub IsRefused : List Bounded → ℕ → NoGuess → Type 0
IsRefused cs seed NotSeed = is_seed cs seed ≡ false
IsRefused cs seed TooMany = (is_seed cs seed ≡ true) × IsTooMany cs seed
IsRefused cs seed SmallBorder = IsLeastRefused cs seed SmallBorder
IsRefused cs seed TooWideBorder = IsLeastRefused cs seed TooWideBorder
IsRefused cs seed (TwoSided x) = IsLeastRefused cs seed (TwoSided x)
IsRefused cs seed Memory = Unit {0}
