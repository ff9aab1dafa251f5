use Rattle.kn_learn.proofs.Places.{at-length}
use Rattle.kn_learn.proofs.noting.note.Goals as goal

pub level_at-requires : goal.level_at-requires
level_at-requires c = let (m, less, at, is) = c.in-Some.ensures.some in at-length c.args.trail.now.made c.in-Some.place m at

pub lit_at-requires : goal.lit_at-requires
lit_at-requires c = let (m, less, at, is) = c.in-Some.ensures.some in at-length c.args.trail.now.made c.in-Some.place m at
