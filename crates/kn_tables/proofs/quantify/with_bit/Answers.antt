use Rattle.std.proofs.Common.{arith}
use Rattle.kn_tables.proofs.Places.{set-is}
use Rattle.kn_tables.proofs.quantify.with_bit.Goals as goal

pub returns : goal.returns
returns c = set-is c.args.place c.args.bit (omega arith)
