use Rattle.std.proofs.Common.{length}
use Rattle.kn_trim.proofs.Read.{IsReadUpTo}
use Rattle.kn_trim.proofs.reading.read_lines.Given as goal

abbrev pub invariant-loop-text : goal.invariant-loop-text
invariant-loop-text l = IsReadUpTo l.f l.bytes l.reader l.rest

abbrev pub decreases-loop-text : goal.decreases-loop-text
decreases-loop-text l = length l.rest
