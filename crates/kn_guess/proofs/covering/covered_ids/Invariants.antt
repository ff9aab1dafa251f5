use Rattle.std.proofs.Common.{◌≡◌, ◌++◌, drop}
use Rattle.kn_guess.specs.Pairing.{covered_ids}
use Rattle.kn_guess.proofs.covering.covered_ids.Given as goal

abbrev pub invariant-loop-lit : goal.invariant-loop-lit
invariant-loop-lit l = l.ids.items ++ covered_ids l.store.live l.border l.skipped (drop l.lit-index l.border) ≡ covered_ids l.store.live l.border l.skipped l.border
