-- The tables of a trail by variable: a sign, where the variable has a value, and the place of its literal.
use Rattle.std.specs.Prelude.{ℕ, ◌≡◌, ◌≤◌, ◌<◌, ◌+◌, Bool, false, List, length, slice_index_or, Option, None, Some}
use Rattle.kn_logic.specs.Literals.{names}
use Rattle.kn_watch.specs.declared.trail.Made.{Made}
use Rattle.kn_watch.specs.Trails.{literals, lit_of}

-- What is kept of a variable: no sign, and it has no literal on the trail; or the sign and the place of its
-- literal.
abbrev pub IsKeptOf : List Made → ℕ → Option Bool → ℕ → Type 0
IsKeptOf made variable None place = names (literals made) variable ≡ false
IsKeptOf made variable (Some sign) place = (place < length made) × (lit_of made place ≡ record { variable = variable; positive = sign })

pub record AreTables (vars : ℕ) (made : List Made) (values : List (Option Bool)) (places : List ℕ) : Type 0 where
  pub valued : length values ≡ vars + 1
  pub placed : length places ≡ vars + 1
  pub kept : (variable : ℕ) → variable ≤ vars → IsKeptOf made variable (slice_index_or values variable None) (slice_index_or places variable 0)
