use Rattle.kn_text.proofs.Written.{content_of_line_text, content_of_lines}
use Rattle.kn_text.proofs.Spelled.{decimal_not_skipped, literal_not_skipped}
use Rattle.kn_text.proofs.laws.written_content_is_read.Goals as goal

pub returns : goal.returns
returns c = record { first = content_of_line_text; all = content_of_lines; number = decimal_not_skipped; literal = literal_not_skipped }
