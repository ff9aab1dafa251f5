use Rattle.kn_lines.proofs.Spelling.{one_spelling, spelled_is_formed, spelled_is_not_skipped}
use Rattle.kn_lines.proofs.Written.{spelled_is_in_range}
use Rattle.kn_lines.proofs.laws.one_spelling.Goals as goal

pub returns : goal.returns
returns c = record { one = one_spelling; kept = spelled_is_not_skipped; formed = spelled_is_formed; range = spelled_is_in_range }
