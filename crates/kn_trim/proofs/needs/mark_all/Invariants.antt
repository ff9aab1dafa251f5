use Rattle.std.proofs.Common.{◌≡◌, drop, length}
use Rattle.kn_trim.specs.Marking.{AreBefore, with_marks}
use Rattle.kn_trim.proofs.needs.mark_all.Given as goal

abbrev pub invariant-loop-number : goal.invariant-loop-number
invariant-loop-number l = record {
  before : AreBefore (length l.marks) (drop l.number-index l.numbers);
  marks : with_marks l.marks (drop l.number-index l.numbers) ≡ with_marks l.fn.marks l.numbers;
}
