use Rattle.std.proofs.Common.{◌≡◌, ◌++◌, drop}
use Rattle.kn_guess.specs.Pairing.{covered_among}
use Rattle.kn_guess.proofs.covering.add_covered.Given as goal

abbrev pub invariant-loop-id : goal.invariant-loop-id
invariant-loop-id l = l.ids.items ++ covered_among l.store.live l.border (drop l.id-index l.named) ≡ l.fn.ids.items ++ covered_among l.store.live l.border l.named
