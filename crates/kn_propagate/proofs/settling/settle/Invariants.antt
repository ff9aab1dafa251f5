use Rattle.std.proofs.Common.{take}
use Rattle.kn_watch.specs.Trails.{literals}
use Rattle.kn_propagate.specs.Chains.{seen_as, IsGrown, AreReasoned, AreSettled}
use Rattle.kn_propagate.proofs.settling.settle.Given as goal

abbrev pub invariant-loop-slot : goal.invariant-loop-slot
invariant-loop-slot g l = record {
  present : IsGrown l.fn.trail l.trail;
  reasons : AreReasoned (seen_as g.W.Watched.bounded g.W.Watched.watches l.slots.items) l.fn.trail.made l.trail.made;
  settled : AreSettled (literals l.fn.trail.made) (literals l.trail.made) (seen_as g.W.Watched.bounded g.W.Watched.watches l.slots.items) (take l.slot-index l.pending);
}
