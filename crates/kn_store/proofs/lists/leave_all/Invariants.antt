use Rattle.std.proofs.Common.{◌≡◌, take}
use Rattle.kn_store.specs.Kept.{without_id, changed}
use Rattle.kn_store.proofs.lists.leave_all.Given as goal

abbrev pub invariant-loop-lit : goal.invariant-loop-lit
invariant-loop-lit l = l.lists ≡ changed (without_id l.id) l.fn.lists (take l.lit-index l.lits)
