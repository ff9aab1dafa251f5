use Rattle.std.proofs.Common.{◌≡◌, ◌≤◌, ◌+◌, ◌-◌, ◌*◌, length, take}
use Rattle.kn_watch.specs.Trails.{literals}
use Rattle.kn_propagate.specs.Chains.{seen_as, AreKept, AreSame, IsGrown, AreReasoned, AreSpared, IsFresh, IsIdle}
use Rattle.kn_propagate.proofs.walking.propagate.Given as goal

abbrev pub invariant-loop-visited : goal.invariant-loop-visited
invariant-loop-visited g l = record {
  sized : length l.chains.heads ≡ 2 * l.fn.trail.vars + 3;
  kept : AreKept l.fn.trail.vars (seen_as g.W.Watched.bounded g.W.Watched.watches l.slots.items);
  same : AreSame (seen_as g.W.Watched.bounded g.W.Watched.watches l.fn.slots.items) (seen_as g.W.Watched.bounded g.W.Watched.watches l.slots.items);
  present : IsGrown l.fn.trail l.trail;
  reasons : AreReasoned (seen_as g.W.Watched.bounded g.W.Watched.watches l.fn.slots.items) l.fn.trail.made l.trail.made;
  spared : AreSpared (length (seen_as g.W.Watched.bounded g.W.Watched.watches l.fn.slots.items)) l.fn.chains l.chains;
  visited : l.visited ≤ length l.trail.made;
  fresh : IsFresh l.trail l.visited;
  idle : IsIdle l.trail.made (take l.visited (literals l.trail.made)) (seen_as g.W.Watched.bounded g.W.Watched.watches l.slots.items) l.chains.spots l.chains.nexts l.chains.heads;
}

abbrev pub decreases-loop-visited : goal.decreases-loop-visited
decreases-loop-visited g l = l.fn.trail.vars - l.visited
