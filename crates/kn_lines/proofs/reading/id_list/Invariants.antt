use Rattle.std.proofs.Common.{◌≡◌, [], length}
use Rattle.kn_text.specs.Lines.{words_of}
use Rattle.kn_lines.specs.Reading.{ids_behind}
use Rattle.kn_lines.proofs.reading.id_list.Given as goal

abbrev pub invariant-loop-word : goal.invariant-loop-word
invariant-loop-word l = ids_behind l.ids.items (words_of l.rest) ≡ ids_behind [] (words_of l.bytes)

abbrev pub decreases-loop-word : goal.decreases-loop-word
decreases-loop-word l = length l.rest
