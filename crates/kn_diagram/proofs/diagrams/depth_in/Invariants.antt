use Rattle.std.proofs.Common.{◌≡◌, ◌+◌, drop}
use Rattle.kn_diagram.specs.Diagrams.{depth_in}
use Rattle.kn_diagram.proofs.diagrams.depth_in.Given as goal

abbrev pub invariant-loop-depth : goal.invariant-loop-depth
invariant-loop-depth l = l.depth + depth_in (drop l.depth l.order) l.var ≡ depth_in l.order l.var
