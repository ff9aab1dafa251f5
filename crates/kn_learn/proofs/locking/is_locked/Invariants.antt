use Rattle.std.proofs.Common.{take}
use Rattle.std.specs.List.{AllByRecursion}
use Rattle.kn_learn.specs.Analyses.{IsNotBy}
use Rattle.kn_learn.proofs.locking.is_locked.Given as goal

abbrev pub invariant-loop-lit : goal.invariant-loop-lit
invariant-loop-lit g l = AllByRecursion (IsNotBy l.engine.trail.made l.id) (take l.lit-index l.lits)
