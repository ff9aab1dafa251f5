use Rattle.kn_lines.proofs.Written.{written_line_is_read, written_is_plain, written_is_content}
use Rattle.kn_lines.proofs.laws.written_line_is_read.Goals as goal

pub returns : goal.returns
returns c = record { read = written_line_is_read; plain = written_is_plain; content = written_is_content }
