use Rattle.kn_tables.proofs.Places.{clear-is}
use Rattle.kn_tables.proofs.quantify.without_bit.Goals as goal

pub returns : goal.returns
returns c = clear-is c.args.place c.args.bit c.requires.place c.requires.bit
