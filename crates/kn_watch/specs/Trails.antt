-- A trail: the literals that a search made true, in the order in which they came, each with the level at
-- which it came and its reason.
use Rattle.std.specs.Prelude.{ℕ, ◌≡◌, ◌≤◌, ◌==◌, nat_lt, Bool, true, false, if◌then◌else◌, List, [], ◌∷◌, ◌++◌, map, filter, slice_index_or, Option, Some, None}
use Rattle.std.specs.List.{AllByRecursion}
use Rattle.kn_logic.specs.Literals.{Literal, negated, has, AreKnown, AreDifferent}
use Rattle.kn_watch.specs.declared.trail.Made.{Made}

pub record Trailed : Type 0 where
  pub vars : ℕ
  pub level : ℕ
  pub made : List Made

abbrev pub literals : List Made → List Literal
literals made = map (λ m. m.lit) made

-- the literal at a place
abbrev pub lit_of : List Made → ℕ → Literal
lit_of made place = slice_index_or (literals made) place (record { variable = 0; positive = true })

-- what stands on the levels below this one; going back to a level leaves what is below the next
abbrev pub below : ℕ → List Made → List Made
below level made = filter (λ m. nat_lt m.level level) made

-- the levels never fall along the trail, and none is above this one
abbrev pub IsRising : ℕ → List Made → Type 0
IsRising level [] = Unit {0}
IsRising level (m ∷ made) = (m.level ≤ level) × AllByRecursion (λ n. m.level ≤ n.level) made × IsRising level made

pub record IsTrail (t : Trailed) : Type 0 where
  pub known : AreKnown t.vars (literals t.made)
  pub different : AreDifferent (literals t.made)
  pub rising : IsRising t.level t.made

-- what the trail says of a variable: the first entry with a literal of it
abbrev pub made_of : List Made → ℕ → Option Made
made_of [] variable = None
made_of (m ∷ made) variable = if m.lit.variable == variable then Some m else made_of made variable

-- the value of a literal
abbrev pub value_in : List Literal → Literal → Option Bool
value_in trail l = if has trail l then Some true else if has trail (negated l) then Some false else None

-- the second list begins with the first
abbrev pub IsFront : List Made → List Made → Type 0
IsFront front made = (rest : List Made) × (made ≡ front ++ rest)

-- the second has more entries behind those of the first, all of this level
abbrev pub Grows : ℕ → List Made → List Made → Type 0
Grows level made new = (more : List Made) × (new ≡ made ++ more) × AllByRecursion (λ m. m.level ≡ level) more
