use Rattle.std.proofs.Common.{take}
use Rattle.kn_quant.proofs.PieceLemmas.{AreHalves}
use Rattle.kn_quant.proofs.run.split.Given as goal

abbrev pub invariant-loop-piece : goal.invariant-loop-piece
invariant-loop-piece l = AreHalves l.var (take l.piece-index l.pieces) l.bucket.items l.rest.items
