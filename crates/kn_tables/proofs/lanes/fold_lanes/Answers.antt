use Rattle.kn_tables.proofs.FourWords.{lanes-zip, lanes-splat, lanes-own}
use Rattle.kn_tables.proofs.lanes.fold_lanes.Goals as goal

pub returns : goal.returns
returns c =
    let own = lanes-own c.args.lanes c.fits-lanes.0 in
    let shifts = lanes-splat c.args.shift in
    let both = lanes-zip _ _ _ _ _ (lanes-zip _ _ _ _ _ own (lanes-zip _ _ _ _ _ own shifts)) (lanes-splat c.args.mask) in
    lanes-zip _ _ _ _ _ both (lanes-zip _ _ _ _ _ both shifts)
