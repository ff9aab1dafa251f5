use Rattle.std.proofs.Common.{◌≡◌, ◌+◌, ◌*◌, ◌≤◌, length}
use Rattle.kn_logic.specs.Literals.{AreKnown}
use Rattle.kn_counter.specs.Rows.{rows_at, with_clauses}
use Rattle.kn_counter.proofs.rows.push_rows.Given as goal

abbrev pub invariant-loop-x : goal.invariant-loop-x
invariant-loop-x l = record {
  whole : with_clauses l.front l.out (rows_at l.above.start l.above.k l.rest) ≡ with_clauses l.front l.fn.out (rows_at l.fn.first.start l.fn.first.k l.lits);
  front : AreKnown l.out.vars l.front;
  known : AreKnown l.out.vars l.rest;
  vars : l.out.vars ≡ l.fn.out.vars;
  k : l.above.k ≡ l.fn.first.k;
  room : l.above.start + length l.rest * l.above.k ≤ l.out.vars;
}

abbrev pub decreases-loop-x : goal.decreases-loop-x
decreases-loop-x l = length l.rest
