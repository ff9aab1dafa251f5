use Rattle.std.proofs.Common.{◌≡◌, length, take}
use Rattle.kn_verdict.proofs.decide.assignment_of.Given as goal

abbrev pub invariant-loop-place : goal.invariant-loop-place
invariant-loop-place l = record {
  length_is : length l.assignment ≡ length l.values;
  set : take l.place l.assignment ≡ take l.place l.values;
}
