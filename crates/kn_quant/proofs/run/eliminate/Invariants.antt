use Rattle.std.proofs.Common.{length}
use Rattle.kn_quant.specs.Pieces.{nodes_of, AreMarked, AreOnTop}
use Rattle.kn_quant.proofs.RunLemmas.{InTurn}
use Rattle.kn_quant.proofs.run.eliminate.Given as goal

abbrev pub invariant-loop-left : goal.invariant-loop-left
invariant-loop-left l = record {
  turn : InTurn l.group l.work l.left (nodes_of l.pieces.items);
  marked : AreMarked l.work.table l.left l.pieces.items;
  on_top : AreOnTop l.work.table.order l.left;
}

abbrev pub decreases-loop-left : goal.decreases-loop-left
decreases-loop-left l = length l.left
