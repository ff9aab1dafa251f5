use Rattle.kn_watch.proofs.TrailKeeps.{rising-raise}
use Rattle.kn_watch.proofs.trail.Trail.raise.Goals as goal

pub invariant_of-self : goal.invariant_of-self
invariant_of-self c = (
  record {
    known = c.self.invariant.0.known;
    different = c.self.invariant.0.different;
    rising = rising-raise c.self.inside.level c.self.inside.made.items c.self.invariant.0.rising;
  },
  c.self.invariant.1,
  c.self.invariant.2,
)
