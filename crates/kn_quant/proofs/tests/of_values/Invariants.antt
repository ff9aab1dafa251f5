use Rattle.kn_diagram.specs.Diagrams.{IsNode, Keeps}
use Rattle.kn_quant.proofs.tests.of_values.Given as goal

abbrev pub invariant-loop-at : goal.invariant-loop-at
invariant-loop-at l = record { kept : Keeps l.fn.d l.d; node : IsNode l.d l.node }
