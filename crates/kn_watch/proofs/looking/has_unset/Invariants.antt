use Rattle.std.proofs.Common.{◌≡◌, drop}
use Rattle.kn_logic.specs.Propagation.{has_unset}
use Rattle.kn_watch.specs.Trails.{literals}
use Rattle.kn_watch.proofs.looking.has_unset.Given as goal

abbrev pub invariant-loop-lit : goal.invariant-loop-lit
invariant-loop-lit l = has_unset (literals l.trail.made) (drop l.lit-index l.lits) ≡ has_unset (literals l.trail.made) l.lits
