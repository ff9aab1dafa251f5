use Rattle.std.proofs.Common.{◌≡◌, ◌≤◌, ◌<◌, ℕ, false}
use Rattle.kn_logic.specs.Propagation.{is_open}
use Rattle.kn_watch.specs.Trails.{literals}
use Rattle.kn_watch.specs.Watches.{lit_at}
use Rattle.kn_kinds.specs.Kinds.{marked_place}
use Rattle.kn_kinds.proofs.marks.unmarked_in.Given as goal

abbrev pub invariant-loop-place : goal.invariant-loop-place
invariant-loop-place l = (q : ℕ) → l.from ≤ q → q < l.place → marked_place l.marks q ≡ false → is_open (literals l.trail.made) (lit_at l.lits q) ≡ false
