use Rattle.std.proofs.Common.{◌≡◌, ◌++◌}
use Rattle.kn_gen.specs.Blocks.{blocks}
use Rattle.kn_gen.proofs.blocks.push_blocks.Given as goal

abbrev pub invariant-loop-before : goal.invariant-loop-before
invariant-loop-before l = l.f ≡ record l.fn.f { constraints = l.fn.f.constraints ++ blocks l.count l.before }
