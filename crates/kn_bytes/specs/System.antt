-- Sources and sinks of the system as their callers see them: nothing but what they count.
use Rattle.std.specs.Prelude.{ℕ}

-- the bytes that a source over a file has given, and how often it has failed
pub record SourceCounts : Type 0 where
  pub given : ℕ
  pub faults : ℕ

-- how often a sink has failed
pub record SinkCounts : Type 0 where
  pub faults : ℕ
