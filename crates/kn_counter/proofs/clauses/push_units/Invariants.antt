use Rattle.std.proofs.Common.{◌≡◌, ◌∷◌, [], map, drop}
use Rattle.kn_logic.specs.Literals.{AreKnown}
use Rattle.kn_counter.specs.Rows.{with_clauses}
use Rattle.kn_counter.proofs.clauses.push_units.Given as goal

abbrev pub invariant-loop-lit : goal.invariant-loop-lit
invariant-loop-lit l = record {
  whole : with_clauses l.front l.out (map (λ x. x ∷ []) (drop l.lit-index l.lits)) ≡ with_clauses l.front l.fn.out (map (λ x. x ∷ []) l.lits);
  front : AreKnown l.out.vars l.front;
  known : AreKnown l.out.vars (drop l.lit-index l.lits);
}
