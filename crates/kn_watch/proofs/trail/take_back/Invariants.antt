use Rattle.std.proofs.Common.{◌≤◌, ◌<◌, length, take}
use Rattle.std.specs.Prelude.{slice_get, IfSome}
use Rattle.kn_watch.specs.Tables.{AreTables}
use Rattle.kn_watch.proofs.trail.take_back.Given as goal

abbrev pub invariant-loop-count : goal.invariant-loop-count
invariant-loop-count l = record {
  within : l.count ≤ length l.made;
  tables : AreTables l.vars (take l.count l.made) l.values l.places;
  above : IfSome (slice_get l.made l.count) (λ m. l.level < m.level);
}

abbrev pub decreases-loop-count : goal.decreases-loop-count
decreases-loop-count l = l.count
