use Rattle.std.proofs.Common.{◌≡◌, map, take}
use Rattle.kn_logic.specs.Literals.{negated}
use Rattle.kn_gen.proofs.blocks.negations.Given as goal

abbrev pub invariant-loop-lit : goal.invariant-loop-lit
invariant-loop-lit l = l.all.items ≡ map negated (take l.lit-index l.lits)
