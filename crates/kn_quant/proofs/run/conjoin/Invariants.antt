use Rattle.std.proofs.Common.{take}
use Rattle.kn_quant.proofs.JoinedLemmas.{Joined}
use Rattle.kn_quant.proofs.run.conjoin.Given as goal

abbrev pub invariant-loop-other : goal.invariant-loop-other
invariant-loop-other l = Joined l.fn.work l.work l.fn.first (take l.other-index l.others) l.node
