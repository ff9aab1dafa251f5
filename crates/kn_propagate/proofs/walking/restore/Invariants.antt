use Rattle.std.proofs.Common.{◌≡◌, length, slice_index_or, take}
use Rattle.kn_watch.specs.Trails.{literals}
use Rattle.kn_propagate.specs.Chains.{seen_as, IsStopped, AreSpared, hand_of, count_from}
use Rattle.kn_propagate.proofs.walking.restore.Given as goal

abbrev pub invariant-loop-entry : goal.invariant-loop-entry
invariant-loop-entry g l = record {
  sized : length l.chains.heads ≡ length l.fn.chains.heads;
  spared : AreSpared (length (seen_as g.W.Watched.bounded g.W.Watched.watches l.slots.items)) l.fn.chains l.chains;
  stopped : IsStopped l.trail.made (take l.visited (literals l.trail.made)) (seen_as g.W.Watched.bounded g.W.Watched.watches l.slots.items) l.chains.spots l.chains.nexts l.chains.heads l.from;
}

abbrev pub decreases-loop-entry : goal.decreases-loop-entry
decreases-loop-entry g l = count_from l.chains.nexts (length l.chains.nexts) (slice_index_or l.chains.heads (hand_of l.chains.heads) 0)
