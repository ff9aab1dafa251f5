use Rattle.std.proofs.Common.{◌≡◌, ◌≤◌, ◌-◌, length}
use Rattle.kn_watch.specs.Trails.{literals}
use Rattle.kn_watch.specs.Watches.{count_watched}
use Rattle.kn_kinds.specs.Latest.{AreLatest}
use Rattle.kn_kinds.specs.Kinds.{marked_place}
use Rattle.kn_kinds.proofs.marks.choose.Given as goal

abbrev pub invariant-loop-count : goal.invariant-loop-count
invariant-loop-count l = record {
  long : length l.marks ≡ length l.lits;
  most : l.count ≤ l.wanted;
  counted : count_watched (marked_place l.marks) 0 (length l.lits) ≡ l.count;
  latest : AreLatest (literals l.trail.made) l.lits (marked_place l.marks);
}

abbrev pub decreases-loop-count : goal.decreases-loop-count
decreases-loop-count l = l.wanted - l.count
