-- What a call does to the objects that it is handed: sources of bytes, and sinks.
use Rattle.std.specs.Prelude.{ℕ, ◌≡◌, ◌+◌, ◌-◌, ◌^◌, ◌<◌, ◌≤◌, List, length, Option, Some}
use Rattle.kn_bytes.specs.Outside.{RoseBy, Rose, Gave, HasEnded}
use Rattle.kn_bytes.specs.declared.source.Source as source
use Rattle.kn_bytes.specs.declared.sink.Sink as sink

-- the most bytes that are read of a source
abbrev pub most_bytes : ℕ
most_bytes = 2 ^ 28

-- what a source shows: the bytes that it has left, where it tells them, how many it has given, and how
-- often it failed
pub record Source : Type 0 where
  pub left : Option (List ℕ)
  pub given : ℕ
  pub faults : ℕ

-- what a sink shows: the bytes written to it, where it tells them, and how often it failed
pub record Sink : Type 0 where
  pub written : Option (List ℕ)
  pub faults : ℕ

-- a source or a sink before the call and after it
pub record Change (S : Type 0) : Type 0 where
  pub old : S
  pub new : S

-- what a value shows as a source, of which `S.Source` tells in a contract
abbrev pub source_of : {S : Type 0} → source.Ghosts S → S → Source
source_of shown s = record { left = shown.left s; given = shown.given s; faults = shown.faults s }

abbrev pub source_change : {S : Type 0} → source.Ghosts S → S → S → Change Source
source_change shown old new = record { old = source_of shown old; new = source_of shown new }

-- what a value shows as a sink
abbrev pub sink_of : {S : Type 0} → sink.Ghosts S → S → Sink
sink_of shown s = record { written = shown.written s; faults = shown.faults s }

abbrev pub sink_change : {S : Type 0} → sink.Ghosts S → S → S → Change Sink
sink_change shown old new = record { old = sink_of shown old; new = sink_of shown new }

abbrev pub Untouched : {S : Type 0} → Change S → Type 0
Untouched c = c.new ≡ c.old

-- These bytes were taken from the source in the call.
pub record Gives (s : Change Source) (bytes : List ℕ) : Type 0 where
  pub gave : Gave s.old.left s.new.left bytes
  pub count : RoseBy s.old.given s.new.given (length bytes)

-- they were all that it had left, and no more than the limit
pub record GivesAll (s : Change Source) (bytes : List ℕ) : Type 0 where
  pub gives : Gives s bytes
  pub ended : HasEnded s.new.left
  pub within : length bytes ≤ most_bytes

-- they were one more than the limit
pub record GivesTooMany (s : Change Source) (bytes : List ℕ) : Type 0 where
  pub gives : Gives s bytes
  pub beyond : length bytes ≡ most_bytes + 1

-- The source failed, after it had given no more bytes than the limit.
pub record FaultsIn (s : Change Source) : Type 0 where
  pub rose : Rose s.old.faults s.new.faults
  pub bytes : List ℕ
  pub gives : Gives s bytes
  pub within : length bytes ≤ most_bytes

abbrev pub ExceedsLimit : Change Source → Type 0
ExceedsLimit s = (bytes : List ℕ) × GivesTooMany s bytes

-- the count of faults stood still below the end of its type: no call failed
abbrev pub NoFault : ℕ → ℕ → Type 0
NoFault old new = (new ≡ old) × (new < 2 ^ 64 - 1)

-- The source told this text, which is within the limit, and no call on it failed.
pub record IsSound (s : Change Source) (text : List ℕ) : Type 0 where
  pub told : s.old.left ≡ Some text
  pub within : length text ≤ most_bytes
  pub quiet : NoFault s.old.faults s.new.faults

-- no call on a sink failed
abbrev pub IsQuiet : Change Sink → Type 0
IsQuiet s = NoFault s.old.faults s.new.faults
