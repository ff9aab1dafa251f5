use Rattle.std.proofs.Common.{◌≡◌, ◌+◌, ◌*◌, length, slice_index_or, take}
use Rattle.kn_logic.specs.Literals.{negated}
use Rattle.kn_watch.specs.Trails.{literals, lit_of}
use Rattle.kn_propagate.specs.Chains.{seen_as, code, AreKept, IsWalking, AreSame, IsGrown, AreReasoned, AreSpared, hand_of, count_from}
use Rattle.kn_propagate.proofs.walking.walk.Given as goal

abbrev pub invariant-loop-entry : goal.invariant-loop-entry
invariant-loop-entry g l = record {
  sized : length l.chains.heads ≡ 2 * l.fn.trail.vars + 3;
  kept : AreKept l.fn.trail.vars (seen_as g.W.Watched.bounded g.W.Watched.watches l.slots.items);
  same : AreSame (seen_as g.W.Watched.bounded g.W.Watched.watches l.fn.slots.items) (seen_as g.W.Watched.bounded g.W.Watched.watches l.slots.items);
  present : IsGrown l.fn.trail l.trail;
  reasons : AreReasoned (seen_as g.W.Watched.bounded g.W.Watched.watches l.fn.slots.items) l.fn.trail.made l.trail.made;
  spared : AreSpared (length (seen_as g.W.Watched.bounded g.W.Watched.watches l.fn.slots.items)) l.fn.chains l.chains;
  walking : IsWalking l.trail.made (take l.visited (literals l.fn.trail.made)) (seen_as g.W.Watched.bounded g.W.Watched.watches l.slots.items) l.chains.spots l.chains.nexts l.chains.heads (code (negated (lit_of l.fn.trail.made l.visited)));
}

abbrev pub decreases-loop-entry : goal.decreases-loop-entry
decreases-loop-entry g l = count_from l.chains.nexts (length l.chains.nexts) (slice_index_or l.chains.heads (hand_of l.chains.heads) 0)
