use Rattle.std.proofs.Common.{◌≡◌, ◌+◌, ◌≤◌, All, length}
use Rattle.std.specs.List.{range_with_len}
use Rattle.kn_diagram.specs.Diagrams.{IsNode}
use Rattle.kn_diagram.proofs.grids.at_least.Given as goal

abbrev pub invariant-loop-var : goal.invariant-loop-var
invariant-loop-var l = record {
  order : l.d.order ≡ range_with_len 1 l.vars;
  nodes : All (IsNode l.d) l.row.items;
  len : length l.row.items ≡ l.bound + 1;
  within : l.var ≤ l.vars;
}

abbrev pub decreases-loop-var : goal.decreases-loop-var
decreases-loop-var l = l.var
