-- How neighbours are looked for in tables that shrink while they are walked.
use Rattle.std.specs.Prelude.{ℕ, ◌≡◌, ◌≤◌, ◌-◌, nat_lt, ◌&&◌, ◌||◌, Bool, true, false, List, [], ◌++◌, length, slice_index_or}
use Rattle.std.specs.List.{list_any, AllByRecursion}
use Rattle.kn_logic.specs.Groups.{is_among}
use Rattle.kn_guess.specs.Refusals.{AreApart}

-- a later variable than the seed that stands in no klause, by a table of these
abbrev pub is_later : ℕ → List Bool → ℕ → Bool
is_later seed free v = nat_lt seed v && slice_index_or free (v - 1) false

-- the numbers of one list of several
abbrev pub kept : List (List ℕ) → ℕ → List ℕ
kept lists k = slice_index_or lists k []

-- the variable stands in some of the lists with these places
abbrev pub is_near : List (List ℕ) → List ℕ → ℕ → Bool
is_near members places v = list_any (λ k. is_among (kept members k) v) places

-- Some numbers have left a list, but none that passes the test.
abbrev pub Thins : (ℕ → Bool) → List ℕ → List ℕ → Type 0
Thins test old new = ((v : ℕ) → is_among new v ≡ true → is_among old v ≡ true) × ((v : ℕ) → test v ≡ true → is_among old v ≡ true → is_among new v ≡ true)

pub record AllThin (test : ℕ → Bool) (old new : List (List ℕ)) : Type 0 where
  pub long : length new ≡ length old
  pub thins : (k : ℕ) → Thins test (kept old k) (kept new k)

-- A set has grown by numbers that pass the test.
pub record Grows (test : ℕ → Bool) (old new : List ℕ) : Type 0 where
  pub extends : (more : List ℕ) × (new ≡ old ++ more)
  pub apart : AreApart old → AreApart new
  pub from : AllByRecursion (λ v. (is_among old v || test v) ≡ true) new

-- all that pass the test are in the set, if it has at most 256
abbrev pub HasAll : (ℕ → Bool) → List ℕ → Type 0
HasAll test set = length set ≤ 256 → (v : ℕ) → test v ≡ true → is_among set v ≡ true

abbrev pub IsWithin : List ℕ → List ℕ → Type 0
IsWithin inner outer = (v : ℕ) → is_among inner v ≡ true → is_among outer v ≡ true
