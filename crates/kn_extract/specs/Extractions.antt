-- The extraction of a formula: groups of clauses that hide a count are taken out of it, one after another, and
-- for each group its klause comes. Reeves, Heule and Bryant (CAV 2024) guess such groups and verify each; in which
-- order, and within which limits, is this project's own. What is guessed is in `kn_guess/specs/Guesses`, and what a
-- count is in `kn_verdict/specs/Cardinals`.
use Rattle.std.specs.Prelude.{ℕ, ◌≡◌, ◌+◌, ◌⊎◌, not, Bool, false, List, [], ◌∷◌, ◌++◌, length, filter, ◌≤◌}
use Rattle.std.specs.List.{range_with_len, flat_map}
use Rattle.kn_logic.specs.Assignments.{value_of}
use Rattle.kn_logic.specs.Constraints.{Bounded, klause}
use Rattle.kn_logic.specs.Formulas.{Problem}
use Rattle.kn_logic.specs.Groups.{Gathered, is_among, is_covered}
use Rattle.kn_store.specs.Stores.{Numbered, Stored, problem_of}
use Rattle.kn_guess.specs.Guesses.{touches, IsSeedGuess, IsPairGuess}
use Rattle.kn_verdict.specs.Cardinals.{IsCardinal, IsNarrow}
use Rattle.kn_verdict.specs.Verdicts.{IsInRange}

-- A group that was taken, the ids of its clauses, and the bound of its klause. The constraints of a formula have
-- ids in their order, counted from 1.
pub record Found : Type 0 where
  pub group : Gathered
  pub ids : List ℕ
  pub bound : ℕ

-- at least so many literals of its border
abbrev pub klause_of : Found → Bounded
klause_of x = klause x.bound x.group.border

-- constraints under ids, from the one after `last` on
abbrev pub numbered : ℕ → List Bounded → List Numbered
numbered last [] = []
numbered last (c ∷ cs) = record { id = last + 1; constraint = c } ∷ numbered (last + 1) cs

-- a formula, before anything is taken
abbrev pub stored_of : Problem → Stored
stored_of f = record { vars = f.vars; added = length f.constraints; live = numbered 0 f.constraints }

-- those whose constraint does not pass a test, in their order
abbrev pub left : (Bounded → Bool) → List Numbered → List Numbered
left test pairs = filter (λ p. not (test p.constraint)) pairs

-- The constraints that pass a test go, and this one comes at the end.
abbrev pub replaced : Stored → (Bounded → Bool) → Bounded → Stored
replaced s test c = record { vars = s.vars; added = s.added + 1; live = left test s.live ++ record { id = s.added + 1; constraint = c } ∷ [] }

-- The guess of a seed is taken where no stage of its elimination is wide, and where it is cardinal with a bound
-- from 2 to one less than its border. All clauses that name one of its auxiliary variables go.
pub record IsSeedTaken (s : Stored) (seed : ℕ) (x : Found) (t : Stored) : Type 0 where
  pub guess : IsSeedGuess s seed x.group x.ids
  pub narrow : IsNarrow x.group
  pub cardinal : IsCardinal x.group x.bound
  pub range : IsInRange x.group x.bound
  pub next : t ≡ replaced s (touches x.group.aux) (klause_of x)

-- The guess of a start is taken wherever there is one: at most one of its n literals is false, so its bound is
-- n - 1. All binary clauses of two of its literals go.
pub record IsPairTaken (s : Stored) (start : ℕ) (x : Found) (t : Stored) : Type 0 where
  pub guess : IsPairGuess s start x.group x.ids
  pub bound : x.bound + 1 ≡ length x.group.border
  pub next : t ≡ replaced s (is_covered x.group.border) (klause_of x)

-- One number after another is tried, on what is left then: it takes a group, or it has none to take and is passed.
abbrev pub Tries : (Stored → ℕ → Found → Stored → Type 0) → List ℕ → Stored → List Found → Stored → Type 0
Tries Takes [] s found t = (found ≡ []) × (t ≡ s)
Tries Takes (n ∷ ns) s found t =
    (((x : Found) (u : Stored) → Takes s n x u → ⊥) × Tries Takes ns s found t)
    ⊎ ((x : Found) × (u : Stored) × (more : List Found) × (found ≡ x ∷ more) × Takes s n x u × Tries Takes ns u more t)

-- The extraction of a formula: the groups in the order in which they are taken, and the formula that remains. First
-- each variable is tried as a seed, ascending; then each constraint of the formula as a start, in order, where it
-- is still there and is a binary clause.
pub record IsExtraction (f : Problem) (found : List Found) (last : Problem) : Type 0 where
  pub seeded : List Found
  pub paired : List Found
  pub middle : Stored
  pub rest : Stored
  pub seeds : Tries IsSeedTaken (range_with_len 1 f.vars) (stored_of f) seeded middle
  pub starts : Tries IsPairTaken (range_with_len 1 (length f.constraints)) middle paired rest
  pub found_are : found ≡ seeded ++ paired
  pub last_is : last ≡ problem_of rest

-- the auxiliary variables of all groups
abbrev pub listed : List Found → List ℕ
listed found = flat_map (λ x. x.group.aux) found

-- Two assignments have one value at each variable that is not among these.
abbrev pub AgreeOff : List ℕ → List Bool → List Bool → Type 0
AgreeOff variables a b = (x : ℕ) → 1 ≤ x → is_among variables x ≡ false → value_of b x ≡ value_of a x
