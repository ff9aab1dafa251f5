-- Flags of variables, that of variable 1 first.
use Rattle.std.specs.Prelude.{ℕ, ◌≡◌, ◌≤◌, ◌-◌, ◌==◌, ◌&&◌, not, Bool, true, false, if◌then◌else◌, List, [], ◌∷◌, length, slice_index_or, slice_set}
use Rattle.std.specs.List.{list_any}
use Rattle.kn_logic.specs.Literals.{Literal}
use Rattle.kn_logic.specs.Constraints.{Bounded, named, is_clause}
use Rattle.kn_logic.specs.Groups.{is_binary}
use Rattle.kn_guess.specs.declared.marks.Mark.{Mark}
use Rattle.kn_guess.specs.declared.marks.Mark.TheVariants.{Klause, Binary, Positive, Negative}

-- the flags of these variables are taken down
abbrev pub lowered : List Bool → List ℕ → List Bool
lowered flags [] = flags
lowered flags (v ∷ vs) = lowered (slice_set flags (v - 1) false) vs

-- the flags at these places are taken down
abbrev pub cleared : List Bool → List ℕ → List Bool
cleared flags [] = flags
cleared flags (v ∷ vs) = cleared (slice_set flags v false) vs

-- why a literal of a constraint marks its variable
abbrev pub marks : Mark → Bounded → Literal → Bool
marks Klause c l = not (is_clause c)
marks Binary c l = is_binary c
marks Positive c l = l.positive
marks Negative c l = not l.positive

-- some literal of the constraint marks the variable
abbrev pub marked_in : Mark → ℕ → Bounded → Bool
marked_in mark x c = list_any (λ l. (l.variable == x) && marks mark c l) (named c)

-- the flags of the variables that these literals mark are raised
abbrev pub raised : Mark → Bounded → List Bool → List Literal → List Bool
raised mark c flags [] = flags
raised mark c flags (l ∷ ls) = raised mark c (if marks mark c l then slice_set flags (l.variable - 1) true else flags) ls

-- the flags of the variables that some of the constraints mark
pub record AreMarked (mark : Mark) (vars : ℕ) (cs : List Bounded) (flags : List Bool) : Type 0 where
  pub long : length flags ≡ vars
  pub says : (x : ℕ) → 1 ≤ x → x ≤ vars → slice_index_or flags (x - 1) false ≡ list_any (marked_in mark x) cs
