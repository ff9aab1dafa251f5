use Rattle.std.proofs.Common.{length, take}
use Rattle.kn_tables.specs.Tables.{IsTable}
use Rattle.kn_verdict.specs.Numbered.{conjunction}
use Rattle.kn_verdict.proofs.few.conjunction.Given as goal

abbrev pub invariant-loop-c : goal.invariant-loop-c
invariant-loop-c l = IsTable (length l.variables) (conjunction l.variables (take l.c-index l.taken)) l.table
