use Rattle.kn_text.proofs.Written.{lines_have_no_feed, line_is_plain, text_is_plain}
use Rattle.kn_text.proofs.laws.read_lines_are_plain.Goals as goal

pub returns : goal.returns
returns c = record { lines = lines_have_no_feed; line = line_is_plain; all = text_is_plain }
