use Rattle.std.proofs.Common.{◌≡◌, ◌++◌, drop}
use Rattle.kn_justify.specs.Arms.{literals_of}
use Rattle.kn_justify.proofs.settling.literals.Given as goal

abbrev pub invariant-loop-arm : goal.invariant-loop-arm
invariant-loop-arm l = l.lits.items ++ literals_of (drop l.arm-index l.arms) ≡ literals_of l.arms
