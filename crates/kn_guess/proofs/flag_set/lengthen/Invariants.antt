use Rattle.std.proofs.Common.{◌≡◌, ◌-◌, ◌+◌, ℕ, length, false, slice_index_or}
use Rattle.kn_guess.proofs.flag_set.lengthen.Given as goal

abbrev pub invariant-loop-flags : goal.invariant-loop-flags
invariant-loop-flags l = (k : ℕ) → slice_index_or l.flags.items k false ≡ slice_index_or l.fn.flags.items k false

abbrev pub decreases-loop-flags : goal.decreases-loop-flags
decreases-loop-flags l = l.place + 1 - length l.flags.items
