use Rattle.std.proofs.lemmas.Bool.{eqb-true}
use Rattle.kn_tables.proofs.FourWords.{lanes-same}
use Rattle.kn_tables.proofs.lanes.are_same.Goals as goal

pub returns : goal.returns
returns c h i l = lanes-same c.args.lanes c.args.other c.fits-lanes.0 c.fits-other.0 (eqb-true _ 0 h) i l
