use Rattle.std.proofs.Common.{◌≡◌, ◌≤◌, ◌<◌, ℕ, false, length}
use Rattle.kn_watch.specs.Trails.{literals}
use Rattle.kn_watch.specs.Watches.{lit_at}
use Rattle.kn_kinds.specs.Latest.{rank}
use Rattle.kn_kinds.specs.Kinds.{marked_place}
use Rattle.kn_kinds.proofs.marks.latest_unmarked.Given as goal

abbrev pub invariant-loop-place : goal.invariant-loop-place
invariant-loop-place l = record {
  within : l.latest < length l.lits;
  unmarked : marked_place l.marks l.latest ≡ false;
  latest : (q : ℕ) → q < l.place → marked_place l.marks q ≡ false → rank (literals l.trail.made) (lit_at l.lits q) ≤ rank (literals l.trail.made) (lit_at l.lits l.latest);
}
