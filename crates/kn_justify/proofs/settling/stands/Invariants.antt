use Rattle.std.proofs.Common.{◌≡◌, drop}
use Rattle.kn_logic.specs.Literals.{has}
use Rattle.kn_justify.proofs.settling.stands.Given as goal

abbrev pub invariant-loop-x : goal.invariant-loop-x
invariant-loop-x l = has (drop l.x-index l.lits) l.lit ≡ has l.lits l.lit
