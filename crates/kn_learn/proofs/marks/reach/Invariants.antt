use Rattle.std.proofs.Common.{ℕ, ◌≡◌, ◌≤◌, ◌+◌, ◌-◌, length}
use Rattle.kn_learn.specs.Marking.{mark_at}
use Rattle.kn_learn.proofs.marks.reach.Given as goal

abbrev pub invariant-loop-marks : goal.invariant-loop-marks
invariant-loop-marks l = record {
  longer : length l.fn.marks.items ≤ length l.marks.items;
  same : (q : ℕ) → mark_at l.marks.items q ≡ mark_at l.fn.marks.items q;
}

abbrev pub decreases-loop-marks : goal.decreases-loop-marks
decreases-loop-marks l = l.place + 1 - length l.marks.items
