use Rattle.std.proofs.Common.{◌≢◌, ◌≤◌, ◌<◌, ℕ, length}
use Rattle.kn_watch.specs.Trails.{literals}
use Rattle.kn_watch.specs.Watches.{lit_at}
use Rattle.kn_kinds.specs.Latest.{rank}
use Rattle.kn_kinds.proofs.clause_watch.latest_but.Given as goal

abbrev pub invariant-loop-place : goal.invariant-loop-place
invariant-loop-place l = record {
  within : l.latest < length l.lits;
  other : l.latest ≢ l.skipped;
  latest : (q : ℕ) → q < l.place → q ≢ l.skipped → rank (literals l.trail.made) (lit_at l.lits q) ≤ rank (literals l.trail.made) (lit_at l.lits l.latest);
}
