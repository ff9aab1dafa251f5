use Rattle.std.proofs.Common.{◌≡◌, ◌+◌, ◌≤◌, length}
use Rattle.kn_text.specs.Lines.{lines_of, content_from}
use Rattle.kn_rules.proofs.whole.pass_skipped.Given as goal

abbrev pub invariant-loop-line : goal.invariant-loop-line
invariant-loop-line l = record {
  content : content_from (l.passed + 1) (lines_of l.rest) ≡ content_from 1 (lines_of l.text);
  count : l.passed + length (lines_of l.rest) ≡ length (lines_of l.text);
  room : l.passed + length l.rest ≤ length l.text;
}

abbrev pub decreases-loop-line : goal.decreases-loop-line
decreases-loop-line l = length l.rest
