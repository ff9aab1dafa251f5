use Rattle.std.proofs.Common.{◌≡◌, ◌-◌, length}
use Rattle.kn_search.proofs.diving.dive.Given as goal

abbrev pub invariant-loop-id : goal.invariant-loop-id
invariant-loop-id g l = record {
  vars : l.engine.trail.vars ≡ l.fn.engine.trail.vars;
  live : l.engine.live ≡ l.fn.engine.live;
}

abbrev pub decreases-loop-id : goal.decreases-loop-id
decreases-loop-id g l = l.engine.trail.vars - length l.engine.trail.made
