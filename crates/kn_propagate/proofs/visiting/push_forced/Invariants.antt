use Rattle.kn_watch.specs.Trails.{literals}
use Rattle.kn_propagate.specs.Chains.{IsGrown, AreForcedBy}
use Rattle.kn_watch.proofs.Public.{IsForcedTo}
use Rattle.kn_propagate.proofs.visiting.push_forced.Given as goal

abbrev pub invariant-loop-place : goal.invariant-loop-place
invariant-loop-place g l = record {
  present : IsGrown l.fn.trail l.trail;
  reasons : AreForcedBy l.id (g.W.Watched.bounded l.w) l.fn.trail.made l.trail.made;
  to : IsForcedTo (literals l.trail.made) (g.W.Watched.bounded l.w) l.place;
}
