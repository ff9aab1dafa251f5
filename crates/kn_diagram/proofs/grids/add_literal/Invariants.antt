use Rattle.std.proofs.Common.{◌≡◌, ◌≤◌, All, length}
use Rattle.kn_diagram.specs.Diagrams.{IsNode}
use Rattle.kn_diagram.proofs.grids.add_literal.Given as goal

abbrev pub invariant-loop-at : goal.invariant-loop-at
invariant-loop-at l = record {
  order : l.d.order ≡ l.fn.d.order;
  literal : IsNode l.d l.literal;
  nodes : All (IsNode l.d) l.row.items;
  len : length l.row.items ≡ length l.fn.row.items;
  within : l.at ≤ length l.row.items;
}

abbrev pub decreases-loop-at : goal.decreases-loop-at
decreases-loop-at l = l.at
