use Rattle.std.proofs.Common.{◌≡◌, ◌≤◌, drop, length, vec_len, vec_capacity}
use Rattle.kn_rules.specs.Restoring.{deleted_slots, restored}
use Rattle.kn_rules.proofs.deletion.take_out.Given as goal

abbrev pub invariant-loop-id : goal.invariant-loop-id
invariant-loop-id l = record {
  count : vec_len l.taken ≡ l.id-index;
  room : length l.ids ≤ vec_capacity l.taken;
  rest : deleted_slots l.slots (drop l.id-index l.ids) ≡ deleted_slots l.fn.slots l.ids;
  back : restored l.slots l.ids l.taken.items ≡ l.fn.slots;
}
