use Rattle.std.proofs.Common.{◌≡◌, ◌+◌, drop}
use Rattle.kn_diagram.specs.Diagrams.{depth_in}
use Rattle.kn_verdict.proofs.few.place_of.Given as goal

abbrev pub invariant-loop-place : goal.invariant-loop-place
invariant-loop-place l = l.place + depth_in (drop l.place l.variables) l.variable ≡ depth_in l.variables l.variable
