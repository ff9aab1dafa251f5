use Rattle.std.proofs.Common.{◌≡◌, ◌+◌, ◌≤◌, drop}
use Rattle.kn_logic.specs.Propagation.{open_places}
use Rattle.kn_rules.proofs.assumed.Assumed.count_open.Given as goal

abbrev pub invariant-loop-lit : goal.invariant-loop-lit
invariant-loop-lit l = (l.count + open_places l.self.lits (drop l.lit-index l.lits) ≡ open_places l.self.lits l.lits) × (l.count ≤ l.lit-index)
