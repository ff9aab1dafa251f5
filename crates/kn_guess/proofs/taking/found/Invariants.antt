use Rattle.std.proofs.Common.{◌≡◌, ◌++◌, drop}
use Rattle.kn_guess.specs.Seen.{found}
use Rattle.kn_guess.proofs.taking.found.Given as goal

abbrev pub invariant-loop-id : goal.invariant-loop-id
invariant-loop-id l = l.all.items ++ found l.store.live (drop l.id-index l.ids) ≡ found l.store.live l.ids
