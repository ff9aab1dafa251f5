use Rattle.std.proofs.Common.{◌≡◌, length}
use Rattle.kn_text.specs.Lines.{words_of}
use Rattle.kn_lines.specs.Reading.{literals_behind}
use Rattle.kn_lines.proofs.reading.literals.Given as goal

abbrev pub invariant-loop-word : goal.invariant-loop-word
invariant-loop-word l = literals_behind l.lits.items (words_of l.rest) ≡ literals_behind l.fn.lits.items (words_of l.bytes)

abbrev pub decreases-loop-word : goal.decreases-loop-word
decreases-loop-word l = length l.rest
