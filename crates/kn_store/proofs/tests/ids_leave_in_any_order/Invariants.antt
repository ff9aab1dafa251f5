use Rattle.std.proofs.Common.{◌≡◌}
use Rattle.kn_store.proofs.tests.ids_leave_in_any_order.Given as goal

abbrev pub invariant-loop-id : goal.invariant-loop-id
invariant-loop-id g l = l.s.vars ≡ 2
