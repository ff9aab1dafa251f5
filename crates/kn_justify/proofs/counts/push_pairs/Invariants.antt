use Rattle.std.proofs.Common.{◌≡◌, ◌++◌, drop}
use Rattle.kn_justify.specs.PairGroups.{ids_with}
use Rattle.kn_justify.proofs.counts.push_pairs.Given as goal

abbrev pub invariant-loop-k : goal.invariant-loop-k
invariant-loop-k l = l.hints.items ++ ids_with l.pairs l.l (drop l.k-index l.lits) ≡ l.fn.hints.items ++ ids_with l.pairs l.l l.lits
