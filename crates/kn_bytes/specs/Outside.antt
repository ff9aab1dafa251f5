-- What a call does to a source or a sink: the bytes that move, and the counts that rise.
use Rattle.std.specs.Prelude.{◌≡◌, ℕ, ◌+◌, ◌-◌, ◌^◌, ◌<◌, ◌≤◌, min, List, [], ◌++◌, Option, None, Some, Result, OnErr}

-- A count rises by n. It stands still at the end of its type, 2 ^ 64 - 1.
abbrev pub RoseBy : ℕ → ℕ → ℕ → Type 0
RoseBy before now n = (before ≤ now) × (now < 2 ^ 64 - 1 → now ≡ before + n)

-- a count of faults rises, or stands at the end of its type
abbrev pub Rose : ℕ → ℕ → Type 0
Rose before now = min (before + 1) (2 ^ 64 - 1) ≤ now

-- the count of faults doesn't fall, and an error is told only where it rose
pub record HasCause {T E : Type 0} (before now : ℕ) (result : Result T E) : Type 0 where
  pub later : before ≤ now
  pub failed : OnErr result (Rose before now)

-- A source gave these bytes: they were the first of what it had left. A source that doesn't tell what
-- it has left never tells it, and one that tells it always does.
abbrev pub Gave : Option (List ℕ) → Option (List ℕ) → List ℕ → Type 0
Gave None new bytes = new ≡ None
Gave (Some old) None bytes = ⊥
Gave (Some old) (Some new) bytes = old ≡ bytes ++ new

-- a sink got these bytes: they stand behind all that was written before
abbrev pub Got : Option (List ℕ) → Option (List ℕ) → List ℕ → Type 0
Got None new bytes = new ≡ None
Got (Some old) None bytes = ⊥
Got (Some old) (Some new) bytes = new ≡ old ++ bytes

-- a sink got some of the first of these bytes
abbrev pub GotPrefix : Option (List ℕ) → Option (List ℕ) → List ℕ → Type 0
GotPrefix old new bytes = (front : List ℕ) × (rest : List ℕ) × (bytes ≡ front ++ rest) × Got old new front

-- nothing is left, as far as this is told
abbrev pub HasEnded : Option (List ℕ) → Type 0
HasEnded None = Unit {0}
HasEnded (Some bytes) = bytes ≡ []
