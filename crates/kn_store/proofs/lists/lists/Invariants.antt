use Rattle.std.proofs.Common.{◌≡◌, [], replicate}
use Rattle.kn_store.proofs.lists.lists.Given as goal

abbrev pub invariant-loop : goal.invariant-loop
invariant-loop l = l.lists.items ≡ replicate l.counter []
