use Rattle.std.proofs.Common.{◌≡◌, ℕ, length}
use Rattle.kn_text.specs.Lines.{content_from, content_of, lines_of}
use Rattle.kn_trim.proofs.reading.behind_first.Given as goal

abbrev pub invariant-loop-line : goal.invariant-loop-line
invariant-loop-line l = (number : ℕ) × (content_from number (lines_of l.rest) ≡ content_of l.bytes)

abbrev pub decreases-loop-line : goal.decreases-loop-line
decreases-loop-line l = length l.rest
