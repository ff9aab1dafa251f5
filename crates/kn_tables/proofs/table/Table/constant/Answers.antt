use Rattle.std.proofs.Common.{arith}
use Rattle.kn_tables.proofs.Places.{words_of-most}
use Rattle.kn_tables.proofs.Tabled.{table-by_words}
use Rattle.kn_tables.proofs.table.Table.constant.Goals as goal

pub returns : goal.returns
returns c =
    table-by_words c.args.n _ c.filled.result c.requires (λ k h. c.filled.ensures k (omega (arith, h, words_of-most c.args.n c.requires)))
