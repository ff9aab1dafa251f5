use Rattle.std.proofs.Common.{◌++◌, List, take}
use Rattle.kn_logic.specs.Literals.{Literal}
use Rattle.kn_rules.specs.Marks.{IsMarked}
use Rattle.kn_rules.proofs.assumed.mark_all.Given as goal

abbrev pub invariant-loop-lit : goal.invariant-loop-lit
invariant-loop-lit l = (before : List Literal) → IsMarked l.fn.marks before → IsMarked l.marks (before ++ take l.lit-index l.lits)
