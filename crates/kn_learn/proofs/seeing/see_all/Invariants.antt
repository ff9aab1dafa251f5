use Rattle.std.proofs.Common.{ℕ, List, ◌≤◌, ◌+◌, take}
use Rattle.std.specs.List.{AllByRecursion}
use Rattle.kn_propagate.specs.Engines.{Live}
use Rattle.kn_learn.specs.Analyses.{IsNeededFor, IsWalking, Grows, IsLeft}
use Rattle.kn_learn.proofs.seeing.see_all.Given as goal

abbrev pub invariant-loop-lit : goal.invariant-loop-lit
invariant-loop-lit l = record {
  walking : (live : List Live) (p : ℕ) (left : List ℕ) → IsWalking l.trail live p left l.fn.a.walk → l.before ≤ p + 1 → IsLeft l.fn.a.walk l.before left → IsWalking l.trail live p left l.a.walk;
  needed : AllByRecursion (IsNeededFor l.trail.made l.a.walk.marks l.before) (take l.lit-index l.lits);
  grows : Grows l.before l.fn.a.walk l.a.walk;
}
