use Rattle.std.proofs.Common.{◌≡◌, ◌+◌, ◌-◌, ◌∷◌, [], map}
use Rattle.kn_logic.specs.Literals.{negated, AreKnown}
use Rattle.kn_counter.specs.Counters.{counting}
use Rattle.kn_counter.specs.Rows.{row_literal, first_at, with_clauses}
use Rattle.kn_counter.proofs.rows.push_first.Given as goal

abbrev pub invariant-loop-j : goal.invariant-loop-j
invariant-loop-j l = record {
  whole : with_clauses l.front l.out (map (λ j. negated (row_literal l.own.start j) ∷ []) (counting l.j (l.own.k + 1 - l.j))) ≡ with_clauses l.front l.fn.out (first_at l.own.start l.own.k l.fn.x);
  front : AreKnown l.out.vars l.front;
  vars : l.out.vars ≡ l.fn.out.vars;
}
