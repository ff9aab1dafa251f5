use Rattle.std.proofs.Common.{◌≡◌, take}
use Rattle.kn_learn.specs.Analyses.{rest_of}
use Rattle.kn_learn.proofs.learning.choose.Given as goal

abbrev pub invariant-loop-place : goal.invariant-loop-place
invariant-loop-place l = l.rest.items ≡ rest_of l.walk.marks (take l.place-index l.walk.kept.items)
