use Rattle.kn_diagram.proofs.ReachLemmas.{Walk}
use Rattle.kn_diagram.proofs.width.reached.Given as goal

abbrev pub invariant-loop-place : goal.invariant-loop-place
invariant-loop-place l = Walk l.d l.fn.f l.place l.set
