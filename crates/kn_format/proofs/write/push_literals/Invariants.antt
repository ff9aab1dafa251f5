use Rattle.std.proofs.Common.{◌≡◌, ◌++◌, take}
use Rattle.std.specs.List.{flat_map}
use Rattle.kn_format.specs.Writing.{spaced}
use Rattle.kn_format.proofs.write.push_literals.Given as goal

abbrev pub invariant-loop-lit : goal.invariant-loop-lit
invariant-loop-lit l = l.out.items ≡ l.fn.out.items ++ flat_map spaced (take l.lit-index l.lits)
