use Rattle.std.proofs.Common.{◌≡◌, ◌≤◌, ◌+◌, drop}
use Rattle.kn_watch.specs.Trails.{literals}
use Rattle.kn_watch.specs.Watches.{true_in}
use Rattle.kn_kinds.proofs.survey.count_true.Given as goal

abbrev pub invariant-loop-lit : goal.invariant-loop-lit
invariant-loop-lit l = record {
  counted : l.count + true_in (literals l.trail.made) (drop l.lit-index l.lits) ≡ true_in (literals l.trail.made) l.lits;
  few : l.count ≤ l.lit-index;
}
