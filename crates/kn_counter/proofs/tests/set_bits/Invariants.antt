use Rattle.std.proofs.Common.{◌≡◌, length}
use Rattle.kn_counter.proofs.tests.set_bits.Given as goal

abbrev pub invariant-loop-place : goal.invariant-loop-place
invariant-loop-place l = length l.m ≡ length l.fn.m
