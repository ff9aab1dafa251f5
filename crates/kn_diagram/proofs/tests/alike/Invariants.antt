use Rattle.std.proofs.Common.{◌≡◌}
use Rattle.std.specs.List.{range_with_len}
use Rattle.kn_diagram.specs.Diagrams.{IsNode}
use Rattle.kn_diagram.proofs.tests.alike.Given as goal

abbrev pub invariant-loop-var : goal.invariant-loop-var
invariant-loop-var l = record { order : l.d.order ≡ range_with_len 1 17; node : IsNode l.d l.node }
