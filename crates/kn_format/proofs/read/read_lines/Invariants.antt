use Rattle.std.proofs.Common.{◌≡◌, ◌+◌, ◌<◌, ◌^◌, length}
use Rattle.kn_text.specs.Lines.{lines_of, content_from}
use Rattle.kn_format.specs.Reading.{after_lines}
use Rattle.kn_format.proofs.read.read_lines.Given as goal

-- what is left, from the reading so far, gives what the whole gives
abbrev pub invariant-loop-found : goal.invariant-loop-found
invariant-loop-found l = record {
  count : l.number + length (lines_of l.rest) ≡ l.fn.number + length (lines_of l.text);
  within : l.number + length l.rest < 2 ^ 64;
  left : after_lines (l.fn.number + length (lines_of l.text)) l.reader (content_from (l.number + 1) (lines_of l.rest))
      ≡ after_lines (l.fn.number + length (lines_of l.text)) l.fn.reader (content_from (l.fn.number + 1) (lines_of l.text));
}

abbrev pub decreases-loop-found : goal.decreases-loop-found
decreases-loop-found l = length l.rest
