use Rattle.std.proofs.Common.{ℕ, ◌≤◌, length, take}
use Rattle.std.specs.List.{AllByRecursion}
use Rattle.std.specs.List.Sorted.{IsNonDecreasing}
use Rattle.kn_learn.specs.Analyses.{IsNeeded, IsRemovable, IsWalking}
use Rattle.kn_learn.proofs.sweeping.sweep.Given as goal

abbrev pub invariant-loop-count : goal.invariant-loop-count
invariant-loop-count g l = record {
  walking : IsWalking l.engine.trail l.engine.live l.a.walk.lowest (take l.count l.a.walk.explained.items) l.a.walk;
  order : IsNonDecreasing l.a.walk.explained.items;
  removable : AllByRecursion (IsRemovable l.engine.trail) l.a.walk.explained.items;
  within : l.count ≤ length l.a.walk.explained.items;
  stays : (q : ℕ) → IsNeeded l.fn.a.walk.marks q → IsNeeded l.a.walk.marks q;
}

abbrev pub decreases-loop-count : goal.decreases-loop-count
decreases-loop-count g l = l.count
