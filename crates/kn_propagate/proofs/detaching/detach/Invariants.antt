use Rattle.std.proofs.Common.{◌≡◌, ◌≤◌, ◌+◌, ◌*◌, length}
use Rattle.kn_watch.specs.Watches.{listed}
use Rattle.kn_propagate.specs.Chains.{seen_as, at_slot, cut, IsStill, AreSpare}
use Rattle.kn_propagate.proofs.detaching.detach.Given as goal

abbrev pub invariant-loop-place : goal.invariant-loop-place
invariant-loop-place g l = record {
  sized : length l.chains.heads ≡ 2 * l.vars + 3;
  inside : l.place ≤ length (listed (at_slot (seen_as g.W.Watched.bounded g.W.Watched.watches l.slots.items) l.owner).c);
  still : IsStill (cut (seen_as g.W.Watched.bounded g.W.Watched.watches l.slots.items) l.owner l.place) l.chains;
  spare : AreSpare l.chains;
}

abbrev pub decreases-loop-place : goal.decreases-loop-place
decreases-loop-place g l = l.place
