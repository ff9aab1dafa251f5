use Rattle.std.proofs.Common.{arith}
use Rattle.std.proofs.lemmas.Grind.{common_steps}
use Rattle.kn_rules.proofs.MarkLemmas.{has-names}
use Rattle.kn_rules.proofs.assumed.Assumed.names.Goals as goal

pub returns : goal.returns
returns c =
    let e = has-names c.args.self.now.lits c.args.lit in
    grind (arith, common_steps)
