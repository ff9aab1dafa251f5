use Rattle.std.proofs.Common.{◌≡◌, drop}
use Rattle.kn_guess.specs.Gathering.{with_lits, outside_key}
use Rattle.kn_guess.proofs.gathering.add_lits.Given as goal

abbrev pub invariant-loop-lit : goal.invariant-loop-lit
invariant-loop-lit l = with_lits l.limit (outside_key l.outside.set.now l.outside.positive) l.set (drop l.lit-index l.lits) ≡ with_lits l.limit (outside_key l.outside.set.now l.outside.positive) l.fn.set l.lits
