use Rattle.std.proofs.Common.{◌≡◌, ◌≤◌, ◌+◌, length}
use Rattle.kn_trim.specs.Marking.{is_any}
use Rattle.kn_trim.proofs.needs.any_marked.Given as goal

abbrev pub invariant-loop-left : goal.invariant-loop-left
invariant-loop-left l = record {
  room : l.place + l.left ≤ length l.marks;
  any : is_any l.marks l.place l.left ≡ is_any l.marks l.fn.first l.fn.count;
}

abbrev pub decreases-loop-left : goal.decreases-loop-left
decreases-loop-left l = l.left
