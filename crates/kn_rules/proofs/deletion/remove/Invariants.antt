use Rattle.std.proofs.Common.{◌≡◌, drop}
use Rattle.kn_rules.specs.Restoring.{deleted_slots}
use Rattle.kn_rules.proofs.deletion.remove.Given as goal

abbrev pub invariant-loop-id : goal.invariant-loop-id
invariant-loop-id l = deleted_slots l.slots (drop l.id-index l.ids) ≡ deleted_slots l.fn.slots l.ids
