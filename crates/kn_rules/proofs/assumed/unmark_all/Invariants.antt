use Rattle.std.proofs.Common.{drop}
use Rattle.kn_rules.proofs.MarkLemmas.{IsUnmarked}
use Rattle.kn_rules.proofs.assumed.unmark_all.Given as goal

abbrev pub invariant-loop-lit : goal.invariant-loop-lit
invariant-loop-lit l = IsUnmarked l.marks (drop l.lit-index l.lits)
