use Rattle.std.proofs.Common.{◌≡◌, ◌≤◌, length, vec_len}
use Rattle.kn_rules.specs.Restoring.{restored}
use Rattle.kn_rules.proofs.deletion.put_back.Given as goal

abbrev pub invariant-loop-slot : goal.invariant-loop-slot
invariant-loop-slot l = record {
  count : vec_len l.taken ≤ length l.ids;
  rest : restored l.slots l.ids l.taken.items ≡ restored l.fn.slots l.ids l.fn.taken.items;
}

abbrev pub decreases-loop-slot : goal.decreases-loop-slot
decreases-loop-slot l = vec_len l.taken
