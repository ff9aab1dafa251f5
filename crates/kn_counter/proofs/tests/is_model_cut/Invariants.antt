use Rattle.std.proofs.Common.{◌≡◌, length}
use Rattle.kn_counter.proofs.tests.is_model_cut.Given as goal

abbrev pub invariant-loop-more : goal.invariant-loop-more
invariant-loop-more l = length l.m ≡ l.g.vars
