use Rattle.std.proofs.Common.{◌<◌, take}
use Rattle.kn_learn.specs.Analyses.{AreWithin, IsReached}
use Rattle.kn_learn.proofs.learning.highest.Given as goal

abbrev pub invariant-loop-place : goal.invariant-loop-place
invariant-loop-place l = record {
  within : AreWithin l.trail.made l.level (take l.place-index l.rest);
  reached : IsReached l.trail.made l.level (take l.place-index l.rest);
  below : l.level < l.trail.level;
}
