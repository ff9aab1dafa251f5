-- What a list of literals that are taken to be true makes of a constraint. A literal is true under
-- the list where it stands there, false where its negation does, and has no value else. The rules are
-- those of unit propagation, by which proofs of clauses are checked (reverse unit propagation). On a
-- clause that names no variable twice they are the same; a klause forces by its count, as in the solver
-- of Reeves, Heule and Bryant (CAV 2024).
use Rattle.std.specs.Prelude.{ℕ, ◌≡◌, ◌<◌, ◌==◌, nat_lt, ◌⊎◌, ◌++◌, ◌∷◌, Bool, true, not, ◌&&◌, if◌then◌else◌, List, [], filter, Option, Some, None, option_and_then}
use Rattle.std.specs.List.{list_any, AllByRecursion}
use Rattle.kn_logic.specs.Literals.{Literal, negated, has, places}
use Rattle.kn_logic.specs.Constraints.{Bounded}

-- whether a literal is not false
abbrev pub is_open : List Literal → Literal → Bool
is_open trail l = not (has trail (negated l))

abbrev pub open_places : List Literal → List Literal → ℕ
open_places trail lits = places (is_open trail) lits

-- whether some literal of the list has no value
abbrev pub has_unset : List Literal → List Literal → Bool
has_unset trail lits = list_any (λ l. is_open trail l && not (has trail l)) lits

-- Fewer literals than the bound are not false; or just as many are, and one of them is not true yet.
abbrev pub LacksLiterals : List Literal → ℕ → List Literal → Type 0
LacksLiterals trail bound lits = (open_places trail lits < bound) ⊎ ((open_places trail lits ≡ bound) × (has_unset trail lits ≡ true))

-- A constraint is short where it is violated or forces something. With a guard: where the guard is not
-- false and fewer literals than the bound are not false, or where the guard is true and the rest is as
-- without it.
abbrev pub IsShortUnder : List Literal → Option Literal → ℕ → List Literal → Type 0
IsShortUnder trail None bound lits = LacksLiterals trail bound lits
IsShortUnder trail (Some guard) bound lits =
    ((is_open trail guard ≡ true) × (open_places trail lits < bound))
    ⊎ ((has trail guard ≡ true) × (open_places trail lits ≡ bound) × (has_unset trail lits ≡ true))

abbrev pub IsShort : List Literal → Bounded → Type 0
IsShort trail c = IsShortUnder trail c.guard c.bound c.lits

-- no literal stands there with its negation
abbrev pub IsConsistent : List Literal → Type 0
IsConsistent trail = AllByRecursion (λ l. is_open trail l ≡ true) trail

-- A consistent list is closed for constraints where none of them is short under it.
pub record IsClosed (trail : List Literal) (cs : List Bounded) : Type 0 where
  pub consistent : IsConsistent trail
  pub quiet : AllByRecursion (λ c. IsShort trail c → ⊥) cs

-- A hint without a guard: conflict (none) where fewer literals than the bound are not false; where just
-- as many are, they join the list; else nothing happens.
abbrev pub after_bound : List Literal → ℕ → List Literal → Option (List Literal)
after_bound trail bound lits =
    if nat_lt (open_places trail lits) bound then None
    else if open_places trail lits == bound then Some (trail ++ filter (is_open trail) lits)
    else Some trail

-- A hint with a guard: as without it where the guard is true; nothing where it is false; else the
-- negation of the guard joins the list where fewer literals than the bound are not false.
abbrev pub after_guard : List Literal → Literal → ℕ → List Literal → Option (List Literal)
after_guard trail guard bound lits =
    if has trail guard then after_bound trail bound lits
    else if has trail (negated guard) then Some trail
    else if nat_lt (open_places trail lits) bound then Some (trail ++ negated guard ∷ [])
    else Some trail

abbrev pub after_parts : List Literal → Option Literal → ℕ → List Literal → Option (List Literal)
after_parts trail None bound lits = after_bound trail bound lits
after_parts trail (Some guard) bound lits = after_guard trail guard bound lits

-- what the list is after a hint; none where the run has ended in conflict
abbrev pub after_hint : List Literal → Bounded → Option (List Literal)
after_hint trail c = after_parts trail c.guard c.bound c.lits

-- A run of hints: reverse unit propagation, with literals counted. Hints behind a conflict are not run.
abbrev pub hint_run : List Literal → List Bounded → Option (List Literal)
hint_run trail [] = Some trail
hint_run trail (c ∷ hints) = option_and_then (λ next. hint_run next hints) (after_hint trail c)

-- The hint makes the literal true: it does not end in conflict, and the literal stands in the list behind it.
abbrev pub Forces : List Literal → Bounded → Literal → Type 0
Forces trail c l = (next : List Literal) × (after_hint trail c ≡ Some next) × (has next l ≡ true)
