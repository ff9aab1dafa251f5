use Rattle.std.proofs.Common.{◌+◌, ◌*◌}
use Rattle.kn_learn.specs.Analyses.{Explores}
use Rattle.kn_learn.proofs.removing.+explaining.Given as goal

abbrev pub decreases-explain : goal.decreases-explain
decreases-explain g l = 3 * l.depth

abbrev pub decreases-attempt : goal.decreases-attempt
decreases-attempt g l = 3 * l.depth + 1

abbrev pub decreases-is_explained : goal.decreases-is_explained
decreases-is_explained g l = 3 * l.depth + 2

abbrev pub invariant-explain-loop-lit : goal.invariant-explain-loop-lit
invariant-explain-loop-lit g l = Explores l.engine.trail l.fn.a.walk l.a.walk
