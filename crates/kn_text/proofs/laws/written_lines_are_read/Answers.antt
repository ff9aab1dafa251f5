use Rattle.kn_text.proofs.Written.{words_of_joined, lines_of_line_text, lines_of_lines, words_of_lines}
use Rattle.kn_text.proofs.laws.written_lines_are_read.Goals as goal

pub returns : goal.returns
returns c = record { words = words_of_joined; first = lines_of_line_text; lines = lines_of_lines; all = words_of_lines }
