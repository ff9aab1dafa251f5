use Rattle.std.proofs.Common.{◌≡◌, ◌+◌, ◌≤◌, drop}
use Rattle.kn_logic.specs.Propagation.{open_places}
use Rattle.kn_rules.proofs.assumed.Assumed.count_open_to.Given as goal

abbrev pub invariant-loop-lit : goal.invariant-loop-lit
invariant-loop-lit l = record {
  count : l.count + open_places l.self.lits (drop l.lit-index l.lits) ≡ open_places l.self.lits l.lits;
  room : l.count ≤ l.lit-index;
  most : l.count ≤ l.most;
}
