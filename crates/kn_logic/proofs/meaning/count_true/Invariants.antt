use Rattle.std.proofs.Common.{◌≡◌, ◌+◌, ◌≤◌, drop}
use Rattle.kn_logic.specs.Assignments.{true_places}
use Rattle.kn_logic.proofs.meaning.count_true.Given as goal

abbrev pub invariant-loop-lit : goal.invariant-loop-lit
invariant-loop-lit l = (l.count + true_places l.m (drop l.lit-index l.lits) ≡ true_places l.m l.lits) × (l.count ≤ l.lit-index)
