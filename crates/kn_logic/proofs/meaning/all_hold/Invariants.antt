use Rattle.std.proofs.Common.{drop, length}
use Rattle.std.specs.List.{AllByRecursion}
use Rattle.kn_logic.specs.Constraints.{Fits, Holds}
use Rattle.kn_logic.proofs.meaning.all_hold.Given as goal

abbrev pub invariant-loop-c : goal.invariant-loop-c
invariant-loop-c l = record {
  fit : AllByRecursion (Fits (length l.m)) (drop l.c-index l.constraints);
  rest : AllByRecursion (Holds l.m) (drop l.c-index l.constraints) → AllByRecursion (Holds l.m) l.constraints;
  whole : AllByRecursion (Holds l.m) l.constraints → AllByRecursion (Holds l.m) (drop l.c-index l.constraints);
}
