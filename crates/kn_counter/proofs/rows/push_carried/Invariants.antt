use Rattle.std.proofs.Common.{◌≡◌, ◌+◌, ◌-◌}
use Rattle.std.specs.List.{flat_map}
use Rattle.kn_logic.specs.Literals.{IsKnown, AreKnown}
use Rattle.kn_counter.specs.Counters.{counting}
use Rattle.kn_counter.specs.Rows.{carried_at, with_clauses}
use Rattle.kn_counter.proofs.rows.push_carried.Given as goal

abbrev pub invariant-loop-j : goal.invariant-loop-j
invariant-loop-j l = record {
  whole : with_clauses l.front l.out (flat_map (carried_at l.above.start l.above.k l.x) (counting l.j (l.above.k + 1 - l.j))) ≡ with_clauses l.front l.fn.out (flat_map (carried_at l.above.start l.above.k l.x) (counting 2 (l.above.k - 1)));
  front : AreKnown l.out.vars l.front;
  x : IsKnown l.out.vars l.x;
  vars : l.out.vars ≡ l.fn.out.vars;
}
