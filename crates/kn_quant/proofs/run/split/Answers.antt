use Rattle.std.proofs.Common.{◌+◌, ◌<◌, ◌∙◌, sym, rules, take, length}
use Rattle.kn_quant.proofs.JoinedLemmas.{taken-next}
use Rattle.kn_quant.proofs.PieceLemmas.{halves-bucket, halves-rest}
use Rattle.kn_quant.proofs.run.split.Goals.{then-is_of+in_ok-push, else-is_of+in_ok-push-2}
use Rattle.kn_quant.proofs.run.split.Goals as goal

pub loop-piece-preserved : goal.loop-piece-preserved
loop-piece-preserved c =
    let within : c.loop-piece.piece-index < length c.args.pieces.now = search rules in
    let next = taken-next c.args.pieces.now c.loop-piece.piece-index c.piece-item.result within c.piece-item.is in
    let before = take c.loop-piece.piece-index c.args.pieces.now in
    let after = take (c.loop-piece.piece-index + 1) c.args.pieces.now in
    elim c.if-is_of.branch [
      | then-is_of+in_ok-push w ↦
          halves-bucket c.args.var c.piece-item.result before after c.loop-piece.bucket.items c.if-is_of.bucket.items c.loop-piece.rest.items c.if-is_of.rest.items next c.loop-piece.invariant
          (sym c.is_of.ensures ∙ w.if-is_of.true) ((λ i. (w.bucket-is i).items) ∙ w.in_ok-push.ensures.items) (λ i. (w.rest-is i).items)
      | else-is_of+in_ok-push-2 w ↦
          halves-rest c.args.var c.piece-item.result before after c.loop-piece.bucket.items c.if-is_of.bucket.items c.loop-piece.rest.items c.if-is_of.rest.items next c.loop-piece.invariant
          (sym c.is_of.ensures ∙ w.if-is_of.false) (λ i. (w.bucket-is i).items) ((λ i. (w.rest-is i).items) ∙ w.in_ok-push-2.ensures.items)
    ]
