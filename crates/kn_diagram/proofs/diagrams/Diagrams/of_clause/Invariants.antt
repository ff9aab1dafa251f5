use Rattle.std.proofs.Common.{ℕ, ◌≡◌, ◌≤◌, Bool, length}
use Rattle.kn_diagram.specs.Diagrams.{IsNode, function_of, depth_of, Keeps}
use Rattle.kn_diagram.proofs.ClauseLemmas.{some_from}
use Rattle.kn_diagram.proofs.diagrams.Diagrams.of_clause.Given as goal

abbrev pub invariant-loop-depth : goal.invariant-loop-depth
invariant-loop-depth l = record {
  kept : Keeps l.fn.self l.self;
  there : IsNode l.self l.node;
  within : l.depth ≤ length l.self.order;
  below : l.depth ≤ depth_of l.self l.node;
  lits : l.lits ≡ l.fn.c.lits;
  means : (v : ℕ → Bool) → function_of l.self l.node v ≡ some_from l.self.order l.depth l.fn.c.lits v;
}

abbrev pub decreases-loop-depth : goal.decreases-loop-depth
decreases-loop-depth l = l.depth
