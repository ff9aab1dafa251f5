use Rattle.std.proofs.Common.{◌≡◌, ◌≤◌, ◌<◌, ℕ, true, false, length}
use Rattle.kn_logic.specs.Propagation.{is_open}
use Rattle.kn_watch.specs.Trails.{literals}
use Rattle.kn_watch.specs.Watches.{lit_at, count_watched}
use Rattle.kn_kinds.specs.Kinds.{marked_place}
use Rattle.kn_kinds.proofs.marks.mark_open.Given as goal

abbrev pub invariant-loop-place : goal.invariant-loop-place
invariant-loop-place l = record {
  long : length l.marks ≡ length l.lits;
  most : l.count ≤ l.wanted;
  counted : count_watched (marked_place l.marks) 0 (length l.lits) ≡ l.count;
  open_ : (q : ℕ) → q < length l.lits → marked_place l.marks q ≡ true → is_open (literals l.trail.made) (lit_at l.lits q) ≡ true;
  rest : (q : ℕ) → l.place ≤ q → marked_place l.marks q ≡ false;
}
