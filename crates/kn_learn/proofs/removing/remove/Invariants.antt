use Rattle.kn_learn.specs.Analyses.{Explores}
use Rattle.kn_learn.proofs.removing.remove.Given as goal

abbrev pub invariant-loop-i : goal.invariant-loop-i
invariant-loop-i g l = Explores l.engine.trail l.fn.a.walk l.a.walk
