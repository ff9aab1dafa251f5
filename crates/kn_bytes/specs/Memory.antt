-- Sources and sinks in memory as their callers see them, and what a call changes.
use Rattle.std.specs.Prelude.{ℕ, ◌+◌, ◌-◌, ◌^◌, min, List, ◌++◌, length, drop, Contains, ◌≡◌, ◌<◌, ◌⊎◌}

-- a count of 64 bits that rose by n, and stands still at the end of its type
abbrev pub count_after : ℕ → ℕ → ℕ
count_after count n = min (count + n) (2 ^ 64 - 1)

-- A source: the bytes that are left, the most that one call gives, the numbers of the calls that fail,
-- and how many calls were made, bytes given and faults counted.
pub record SourceState : Type 0 where
  pub left : List ℕ
  pub step : ℕ
  pub failing : List ℕ
  pub calls : ℕ
  pub given : ℕ
  pub faults : ℕ

-- the number of the call that comes next: calls are numbered from 1
abbrev pub next_call : ℕ → ℕ
next_call calls = count_after calls 1

-- the next call fails
abbrev pub SourceFails : SourceState → Type 0
SourceFails s = Contains s.failing (next_call s.calls)

-- how many bytes a call gives that asks for this many
abbrev pub given_len : SourceState → ℕ → ℕ
given_len s asked = min s.step (min asked (length s.left))

-- after a call that gave n bytes
abbrev pub source_after_piece : SourceState → ℕ → SourceState
source_after_piece s n = record s { left = drop n s.left; calls = next_call s.calls; given = count_after s.given n }

-- after a call that failed
abbrev pub source_after_fault : SourceState → SourceState
source_after_fault s = record s { calls = next_call s.calls; faults = count_after s.faults 1 }

-- A sink: the bytes written, the most that it holds and the most that one call takes, the numbers of
-- the calls that fail, and how many calls were made and faults counted.
pub record SinkState : Type 0 where
  pub written : List ℕ
  pub room : ℕ
  pub step : ℕ
  pub failing : List ℕ
  pub calls : ℕ
  pub faults : ℕ

-- the next call fails if it brings this piece: its number says so, or there is no room for a byte of it
abbrev pub SinkFails : SinkState → List ℕ → Type 0
SinkFails s piece = Contains s.failing (next_call s.calls) ⊎ ((length s.written ≡ s.room) × (0 < length piece))

-- how many bytes a call takes that brings this many
abbrev pub taken_len : SinkState → ℕ → ℕ
taken_len s brought = min s.step (min brought (s.room - length s.written))

-- after a call that took these bytes
abbrev pub sink_after_piece : SinkState → List ℕ → SinkState
sink_after_piece s bytes = record s { written = s.written ++ bytes; calls = next_call s.calls }

-- after a call that failed
abbrev pub sink_after_fault : SinkState → SinkState
sink_after_fault s = record s { calls = next_call s.calls; faults = count_after s.faults 1 }

-- a sink that grows: the bytes written, and how often memory was short
pub record GrownState : Type 0 where
  pub written : List ℕ
  pub faults : ℕ
