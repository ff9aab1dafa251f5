use Rattle.std.proofs.Common.{◌≡◌, ◌≤◌, ◌+◌, drop}
use Rattle.kn_logic.specs.Propagation.{open_places}
use Rattle.kn_watch.specs.Trails.{literals}
use Rattle.kn_kinds.proofs.survey.count_open.Given as goal

abbrev pub invariant-loop-lit : goal.invariant-loop-lit
invariant-loop-lit l = record {
  counted : l.count + open_places (literals l.trail.made) (drop l.lit-index l.lits) ≡ open_places (literals l.trail.made) l.lits;
  few : l.count ≤ l.lit-index;
}
