use Rattle.std.proofs.Common.{◌≡◌, ◌+◌, ◌≤◌, length}
use Rattle.kn_text.specs.Lines.{lines_of, content_from}
use Rattle.kn_format.proofs.read.content_line.Given as goal

-- the lines so far are skipped
abbrev pub invariant-loop-line : goal.invariant-loop-line
invariant-loop-line l = record {
  content : content_from (l.lines + 1) (lines_of l.rest) ≡ content_from (l.before + 1) (lines_of l.text);
  count : l.lines + length (lines_of l.rest) ≡ l.before + length (lines_of l.text);
  within : l.lines + length l.rest ≤ l.before + length l.text;
  shorter : length l.rest ≤ length l.text;
}

abbrev pub decreases-loop-line : goal.decreases-loop-line
decreases-loop-line l = length l.rest
