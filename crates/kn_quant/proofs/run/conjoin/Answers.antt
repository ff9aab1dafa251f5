use Rattle.std.proofs.Common.{◌<◌, ◌+◌, sym, subst, rules, take, drop, length, [], ◌∷◌}
use Rattle.std.proofs.lemmas.Result.{err_from_is_err_and}
use Rattle.kn_diagram.specs.Diagrams.{function_of}
use Rattle.kn_quant.specs.Runs.{joins, Join}
use Rattle.kn_quant.specs.Eliminations.{IsPiece, StopsIn, functions_of}
use Rattle.kn_quant.proofs.ProgressLemmas.{if-wide-stage}
use Rattle.kn_quant.proofs.JoinedLemmas.{Joined, joined-more, joined-stops, taken-next, taken-whole, all-at}
use Rattle.kn_quant.proofs.run.conjoin.Goals as goal

pub loop-other-preserved : goal.loop-other-preserved
loop-other-preserved c =
    let within : c.loop-other.other-index < length c.args.others.now = search rules in
    let next = taken-next c.args.others.now c.loop-other.other-index c.other-item.result within c.other-item.is in
    let piece = all-at (IsPiece c.args.work.now) c.args.others.now c.loop-other.other-index c.other-item.result c.requires.others within c.other-item.is in
    subst (λ os. Joined c.args.work.now c.and.new.self c.args.first os c.in_ok-node.node) (sym next)
    (joined-more c.args.work.now c.loop-other.work c.and.new.self c.args.first c.loop-other.node c.other-item.result c.in_ok-node.node (take c.loop-other.other-index c.args.others.now)
    piece c.loop-other.invariant c.in_ok-node.ensures.makes c.in_ok-node.ensures.node)

pub returns-in_err-node-clause-wide : goal.returns-in_err-node-clause-wide
returns-in_err-node-clause-wide c =
    let p = err_from_is_err_and c.from_residual.result c.from_residual.ensures.1 in
    let within : c.loop-other.other-index < length c.args.others.now = search rules in
    let all = taken-whole c.args.others.now c.loop-other.other-index c.other-item.result within c.other-item.is in
    let piece = all-at (IsPiece c.args.work.now) c.args.others.now c.loop-other.other-index c.other-item.result c.requires.others within c.other-item.is in
    rw (p.1, p.2) (if-wide-stage c.in_err-node.field-0.0
    (StopsIn c.loop-other.work (Join (function_of c.loop-other.work.table c.loop-other.node) (function_of c.loop-other.work.table c.other-item.result) ∷ []))
    (StopsIn c.args.work.now (joins (function_of c.args.work.now.table c.args.first) (functions_of c.args.work.now.table c.args.others.now)))
    (λ stage level s. subst (λ os. StopsIn c.args.work.now (joins (function_of c.args.work.now.table c.args.first) (functions_of c.args.work.now.table os)) stage level) all
    (joined-stops c.args.work.now c.loop-other.work c.args.first c.loop-other.node c.other-item.result (take c.loop-other.other-index c.args.others.now) (drop (c.loop-other.other-index + 1) c.args.others.now)
    stage level piece c.loop-other.invariant s))
    c.in_err-node.ensures.wide)
