use Rattle.std.proofs.Common.{◌≡◌, ◌≤◌, ◌-◌, ◌+◌, ℕ, length}
use Rattle.kn_guess.specs.Walks.{kept}
use Rattle.kn_guess.proofs.tables.lengthen.Given as goal

abbrev pub invariant-loop-alloc : goal.invariant-loop-alloc
invariant-loop-alloc l = record {
  more : length l.fn.members.items ≤ length l.members.items;
  same : (k : ℕ) → kept l.members.items k ≡ kept l.fn.members.items k;
}

abbrev pub decreases-loop-alloc : goal.decreases-loop-alloc
decreases-loop-alloc l = l.place + 1 - length l.members.items
