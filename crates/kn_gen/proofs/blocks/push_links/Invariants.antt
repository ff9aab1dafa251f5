use Rattle.std.proofs.Common.{◌≡◌, ◌++◌}
use Rattle.kn_gen.specs.Blocks.{links}
use Rattle.kn_gen.proofs.blocks.push_links.Given as goal

abbrev pub invariant-loop-before : goal.invariant-loop-before
invariant-loop-before l = l.f ≡ record l.fn.f { constraints = l.fn.f.constraints ++ links l.before }
