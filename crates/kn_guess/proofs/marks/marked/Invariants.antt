use Rattle.kn_guess.proofs.Marked.{ArePassed}
use Rattle.kn_guess.proofs.marks.marked.Given as goal

abbrev pub invariant-loop-id : goal.invariant-loop-id
invariant-loop-id l = ArePassed l.mark l.store l.id l.flags
