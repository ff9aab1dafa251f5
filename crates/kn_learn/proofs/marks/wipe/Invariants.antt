use Rattle.std.proofs.Common.{ℕ, ◌≡◌, ◌⊎◌, length, drop, true}
use Rattle.kn_learn.specs.declared.marks.Mark.TheVariants.{Unseen}
use Rattle.kn_learn.specs.Reasons.{contains}
use Rattle.kn_learn.specs.Marking.{mark_at}
use Rattle.kn_learn.proofs.marks.wipe.Given as goal

abbrev pub invariant-loop-place : goal.invariant-loop-place
invariant-loop-place l = record {
  size : length l.marks ≡ length l.fn.marks;
  each : (q : ℕ) → (mark_at l.marks q ≡ Unseen) ⊎ (contains (drop l.place-index l.touched) q ≡ true);
}
