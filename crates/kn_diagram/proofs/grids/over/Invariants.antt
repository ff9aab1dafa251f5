use Rattle.std.proofs.Common.{◌≡◌, ◌≤◌, ◌-◌, length}
use Rattle.std.specs.List.{range_with_len}
use Rattle.kn_diagram.proofs.grids.over.Given as goal

abbrev pub invariant-loop-order : goal.invariant-loop-order
invariant-loop-order l = record { items : l.order.items ≡ range_with_len 1 (length l.order.items); within : length l.order.items ≤ l.vars }

abbrev pub decreases-loop-order : goal.decreases-loop-order
decreases-loop-order l = l.vars - length l.order.items
