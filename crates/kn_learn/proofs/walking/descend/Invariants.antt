use Rattle.std.proofs.Common.{ℕ, ◌≡◌, ◌≤◌, ◌<◌, length, []}
use Rattle.kn_learn.specs.Analyses.{IsNeeded, IsWalking}
use Rattle.kn_learn.proofs.walking.descend.Given as goal

abbrev pub invariant-loop-a : goal.invariant-loop-a
invariant-loop-a g l = record {
  walking : IsWalking l.engine.trail l.engine.live l.place [] l.a.walk;
  none : l.a.walk.explained.items ≡ [];
  above : l.a.walk.lowest ≤ l.place;
  within : l.place < length l.engine.trail.made;
  stays : (q : ℕ) → IsNeeded l.fn.a.walk.marks q → IsNeeded l.a.walk.marks q;
}

abbrev pub decreases-loop-a : goal.decreases-loop-a
decreases-loop-a g l = l.place
