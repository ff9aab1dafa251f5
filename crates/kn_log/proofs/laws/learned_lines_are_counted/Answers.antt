use Rattle.kn_rules.proofs.Public.{learned_in-append}
use Rattle.kn_log.proofs.Text.{written_learned}
use Rattle.kn_log.proofs.laws.learned_lines_are_counted.Goals as goal

pub returns : goal.returns
returns c = record { written = written_learned; more = learned_in-append }
