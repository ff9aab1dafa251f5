use Rattle.std.proofs.Common.{◌≡◌, map, take}
use Rattle.kn_verdict.specs.Numbered.{numbered}
use Rattle.kn_verdict.proofs.few.numbered.Given as goal

abbrev pub invariant-loop-lit : goal.invariant-loop-lit
invariant-loop-lit l = l.out.items ≡ map (numbered l.variables) (take l.lit-index l.lits)
