use Rattle.std.proofs.Common.{◌≡◌, drop, length}
use Rattle.kn_trim.specs.Needed.{variables_of}
use Rattle.kn_trim.specs.Marking.{AreBefore, with_marks}
use Rattle.kn_trim.proofs.needs.mark_literals.Given as goal

abbrev pub invariant-loop-lit : goal.invariant-loop-lit
invariant-loop-lit l = record {
  before : AreBefore (length l.marks) (variables_of (drop l.lit-index l.lits));
  marks : with_marks l.marks (variables_of (drop l.lit-index l.lits)) ≡ with_marks l.fn.marks (variables_of l.lits);
}
