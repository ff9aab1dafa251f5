use Rattle.kn_rebuild.specs.Rebuilding.{IsPartly}
use Rattle.kn_rebuild.proofs.groups.rebuild.Given as goal

abbrev pub invariant-loop-taken : goal.invariant-loop-taken
invariant-loop-taken l = IsPartly l.e l.fn.m l.m l.taken-index
