use Rattle.std.proofs.Common.{◌≡◌, take}
use Rattle.kn_quant.specs.Pieces.{nodes_of}
use Rattle.kn_quant.proofs.run.nodes.Given as goal

abbrev pub invariant-loop-piece : goal.invariant-loop-piece
invariant-loop-piece l = l.nodes.items ≡ nodes_of (take l.piece-index l.pieces)
