use Rattle.std.proofs.Common.{ℕ, ◌≤◌, ◌<◌, ◌+◌, take}
use Rattle.kn_logic.specs.Propagation.{open_places}
use Rattle.kn_watch.specs.Trails.{literals, below}
use Rattle.kn_propagate.proofs.tests.count_open.Given as goal

abbrev pub invariant-loop-lit : goal.invariant-loop-lit
invariant-loop-lit l = record {
  few : l.count ≤ l.lit-index;
  open_ : (k : ℕ) → k < l.trail.level → l.count ≤ open_places (literals (below (k + 1) l.trail.made)) (take l.lit-index l.lits);
}
