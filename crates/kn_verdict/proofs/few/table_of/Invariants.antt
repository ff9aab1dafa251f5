use Rattle.std.proofs.Common.{◌-◌, ◌≤◌, length, take}
use Rattle.kn_verdict.specs.Numbered.{Tells}
use Rattle.kn_verdict.proofs.few.table_of.Given as goal

abbrev pub invariant-loop-var : goal.invariant-loop-var
invariant-loop-var l = record {
  past : length l.group.border ≤ l.var;
  tells : Tells l.group (take (l.var - length l.group.border) l.group.aux) l.table;
}
