use Rattle.std.proofs.Common.{◌-◌, arith}
use Rattle.std.proofs.Math.Nat.{pow-le-pow_right}
use Rattle.kn_tables.proofs.words.word_count.Goals as goal

pub returns-else-vars-le6-clause-most : goal.returns-else-vars-le6-clause-most
returns-else-vars-le6-clause-most c =
    omega (arith, pow-le-pow_right {n = 2} (omega arith) {i = c.args.vars - 6} {j = 6} (omega arith))
