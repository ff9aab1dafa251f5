use Rattle.std.proofs.Common.{ℕ, ◌≡◌, ◌<◌, length, []}
use Rattle.kn_learn.specs.Analyses.{IsNeeded, IsWalking}
use Rattle.kn_learn.proofs.rooting.descend.Given as goal

abbrev pub invariant-loop-place : goal.invariant-loop-place
invariant-loop-place g l = record {
  walking : IsWalking l.engine.trail l.engine.live l.place [] l.a.walk;
  none : l.a.walk.explained.items ≡ [];
  within : l.place < length l.engine.trail.made;
  stays : (q : ℕ) → IsNeeded l.fn.a.walk.marks q → IsNeeded l.a.walk.marks q;
}

abbrev pub decreases-loop-place : goal.decreases-loop-place
decreases-loop-place g l = l.place
