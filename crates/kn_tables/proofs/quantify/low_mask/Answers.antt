use Rattle.kn_tables.proofs.Places.{mask-is}
use Rattle.kn_tables.proofs.quantify.low_mask.Goals as goal

pub returns : goal.returns
returns c = λ p q. mask-is c.args.var p c.requires q
