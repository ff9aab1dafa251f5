use Rattle.kn_trim.proofs.NumberLemmas.{table_read}
use Rattle.kn_trim.proofs.numbers.number_in.Goals as goal

pub returns : goal.returns
returns c = table_read c.args.table.now c.args.number 0 c.requires.table c.requires.within
