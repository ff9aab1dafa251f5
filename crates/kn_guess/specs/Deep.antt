-- A chain of variables in the least set of the first: each is later than the one before and stands in no klause,
-- and some constraint names both.
use Rattle.std.specs.Prelude.{ℕ, ◌≡◌, ◌≤◌, ◌<◌, ◌⊎◌, true, false, List, length, slice_index}
use Rattle.std.specs.List.{AllByRecursion}
use Rattle.kn_logic.specs.Constraints.{Bounded}
use Rattle.kn_logic.specs.Groups.{is_among}
use Rattle.kn_store.specs.Stores.{Stored, constraints_of, ids_of, naming}
use Rattle.kn_guess.specs.Guesses.{in_klause}
use Rattle.kn_guess.specs.Refusals.{AreApart, AreForced}

-- so many variables, none of them before this one, are in its least set
abbrev pub HasChain : List Bounded → ℕ → ℕ → Type 0
HasChain cs x many = (chain : List ℕ) × (many ≤ length chain) × AreApart chain × AllByRecursion (λ v. x ≤ v) chain × AreForced cs x chain

-- The constraint of an id names a later variable that stands in no klause, and that has a chain of so many.
abbrev pub IsReached : Stored → ℕ → ℕ → ℕ → Type 0
IsReached s x id many = (z : ℕ) × (x < z) × (in_klause (constraints_of s.live) z ≡ false) × (is_among (ids_of (naming z s.live)) id ≡ true) × HasChain (constraints_of s.live) z many

-- the number of each id is that of such a chain, or nothing
abbrev pub AreReached : Stored → ℕ → List ℕ → Type 0
AreReached s x best = (id : ℕ) → (slice_index best id ≡ 0) ⊎ IsReached s x id (slice_index best id)

-- the number is that of one of these ids, or nothing
abbrev pub IsOneOf : List ℕ → List ℕ → ℕ → Type 0
IsOneOf best ids many = (many ≡ 0) ⊎ ((id : ℕ) × (is_among ids id ≡ true) × (many ≡ slice_index best id))
