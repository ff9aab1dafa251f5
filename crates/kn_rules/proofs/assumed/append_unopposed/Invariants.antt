use Rattle.std.proofs.Common.{◌≡◌, ◌++◌, take, filter}
use Rattle.kn_rules.specs.Marks.{is_unopposed}
use Rattle.kn_rules.proofs.assumed.append_unopposed.Given as goal

abbrev pub invariant-loop-lit : goal.invariant-loop-lit
invariant-loop-lit l = l.out.items ≡ l.fn.out.items ++ filter (is_unopposed l.marks) (take l.lit-index l.lits)
