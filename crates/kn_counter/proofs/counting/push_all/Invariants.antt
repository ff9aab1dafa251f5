use Rattle.std.proofs.Common.{◌≡◌, ◌+◌, ◌≤◌, drop}
use Rattle.std.specs.List.{AllByRecursion}
use Rattle.kn_logic.specs.Constraints.{Fits}
use Rattle.kn_counter.specs.Counters.{all_further, all_clauses}
use Rattle.kn_counter.specs.Rows.{with_more}
use Rattle.kn_counter.proofs.counting.push_all.Given as goal

abbrev pub invariant-loop-c : goal.invariant-loop-c
invariant-loop-c l = record {
  whole : with_more l.out (all_clauses l.base (drop l.c-index l.constraints)) ≡ with_more l.fn.out (all_clauses l.vars l.constraints);
  fit : AllByRecursion (Fits l.vars) (drop l.c-index l.constraints);
  room : l.base + all_further (drop l.c-index l.constraints) ≤ l.out.vars;
  within : l.vars ≤ l.base;
  vars : l.out.vars ≡ l.fn.out.vars;
}
