use Rattle.std.proofs.Common.{sym, subst, [], ◌∷◌}
use Rattle.kn_quant.specs.Eliminations.{Concludes}
use Rattle.kn_quant.proofs.JoinedLemmas.{rest_of, first-of, none-of, concludes-none, concludes-some}
use Rattle.kn_quant.proofs.run.conclude.Goals as goal

pub returns-in_default-clause-concludes : goal.returns-in_default-clause-concludes
returns-in_default-clause-concludes c =
    subst (λ ps. Concludes c.args.work c.finish.result ps) (sym (none-of c.args.pieces.now c.in_default.len_below))
    (subst (λ e. Concludes c.args.work e []) (sym c.finish.ensures.value) (concludes-none c.args.work c.finish.ensures.narrow))

pub returns-clause-concludes : goal.returns-clause-concludes
returns-clause-concludes c =
    let others = rest_of c.args.pieces.now in
    subst (λ ps. Concludes c.args.work c.finish-2.result ps) (sym (first-of c.args.pieces.now c.first-item.result c.in-len1-up.len_at_least c.first-item.is))
    (subst (λ e. Concludes c.args.work e (c.first-item.result ∷ others)) (sym c.finish-2.ensures.value)
    (concludes-some c.args.work c.conjoin.new.work c.first-item.result c.in_ok-node.node others c.in_ok-node.ensures.makes c.in_ok-node.ensures.node c.finish-2.ensures.narrow))
