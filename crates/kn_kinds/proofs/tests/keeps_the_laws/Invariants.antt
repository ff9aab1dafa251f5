use Rattle.kn_watch.specs.Watches.{HasWatches}
use Rattle.kn_kinds.proofs.tests.keeps_the_laws.Given as goal

abbrev pub invariant-loop-place : goal.invariant-loop-place
invariant-loop-place g l = HasWatches (g.W.Watched.bounded l.w) (g.W.Watched.watches l.w)
