use Rattle.std.proofs.Common.{◌≡◌, length}
use Rattle.kn_rules.specs.States.{looked_up}
use Rattle.kn_rules.specs.Grids.{is_root}
use Rattle.kn_rules.specs.Demands.{all_stand}
use Rattle.kn_rules.proofs.grid.is_root.Given as goal

abbrev pub invariant-loop-lit : goal.invariant-loop-lit
invariant-loop-lit l = all_stand (looked_up l.definitions) l.left l.level ≡ is_root (looked_up l.definitions) l.lits l.bound l.root

abbrev pub decreases-loop-lit : goal.decreases-loop-lit
decreases-loop-lit l = length l.left
