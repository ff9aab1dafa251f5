-- Variables of two sets, the positive and the negative side of a border.
use Rattle.std.specs.Prelude.{ℕ, nat_eq, ◌&&◌, if◌then◌else◌, List, [], ◌∷◌, Option, Some, None}
use Rattle.std.specs.List.{list_any}
use Rattle.kn_logic.specs.Literals.{Literal}

abbrev pub first_in_both : List ℕ → List ℕ → List ℕ → Option ℕ
first_in_both positive negative [] = None
first_in_both positive negative (x ∷ xs) = if list_any (nat_eq x) positive && list_any (nat_eq x) negative then Some x else first_in_both positive negative xs

-- a variable as it stands on its side
abbrev pub sided : List ℕ → ℕ → Literal
sided positive x = record { variable = x; positive = list_any (nat_eq x) positive }
