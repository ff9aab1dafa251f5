use Rattle.std.proofs.Common.{take}
use Rattle.kn_quant.specs.Pieces.{nodes_of, AreMarked}
use Rattle.kn_quant.specs.Eliminations.{Gathers}
use Rattle.kn_quant.proofs.run.take_all.Given as goal

abbrev pub invariant-loop-clause : goal.invariant-loop-clause
invariant-loop-clause l = record {
  gathers : Gathers l.fn.work l.work (take l.clause-index l.clauses) (nodes_of l.pieces.items);
  marked : AreMarked l.work.table l.aux l.pieces.items;
}
