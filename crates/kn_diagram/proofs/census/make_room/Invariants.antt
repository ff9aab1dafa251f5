use Rattle.std.proofs.Common.{ℕ, ◌≡◌, ◌+◌, ◌-◌, length, slice_index}
use Rattle.kn_diagram.proofs.census.make_room.Given as goal

abbrev pub invariant-loop-counts : goal.invariant-loop-counts
invariant-loop-counts l = (k : ℕ) → slice_index l.counts.items k ≡ slice_index l.fn.counts.items k

abbrev pub decreases-loop-counts : goal.decreases-loop-counts
decreases-loop-counts l = l.place + 1 - length l.counts.items
