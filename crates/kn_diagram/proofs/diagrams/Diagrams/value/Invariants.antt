use Rattle.std.proofs.Common.{◌≡◌}
use Rattle.kn_logic.specs.Assignments.{value_of}
use Rattle.kn_diagram.specs.Diagrams.{IsNode, function_of}
use Rattle.kn_diagram.proofs.diagrams.Diagrams.value.Given as goal

abbrev pub invariant-loop-var : goal.invariant-loop-var
invariant-loop-var l = record {
  there : IsNode l.self l.node;
  same : function_of l.self l.node (value_of l.m) ≡ function_of l.self l.fn.f (value_of l.m);
}

abbrev pub decreases-loop-var : goal.decreases-loop-var
decreases-loop-var l = l.node
