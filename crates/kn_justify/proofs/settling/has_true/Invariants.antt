use Rattle.std.proofs.Common.{◌≡◌, drop}
use Rattle.kn_justify.specs.Arms.{has_true}
use Rattle.kn_justify.proofs.settling.has_true.Given as goal

abbrev pub invariant-loop-arm : goal.invariant-loop-arm
invariant-loop-arm l = has_true (drop l.arm-index l.arms) ≡ has_true l.arms
