use Rattle.kn_watch.specs.Trails.{literals}
use Rattle.kn_search.specs.Deciding.{AreValued}
use Rattle.kn_search.proofs.decider.first_free.Given as goal

abbrev pub invariant-loop-place : goal.invariant-loop-place
invariant-loop-place l = AreValued (literals l.trail.made) l.place
