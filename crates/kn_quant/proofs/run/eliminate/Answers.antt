use Rattle.std.proofs.Common.{◌≡◌, ◌∙◌, sym, ap, subst, rules, slice_index}
use Rattle.std.specs.List.{AllByRecursion}
use Rattle.std.proofs.lemmas.Result.{err_from_is_err_and, IfOk-weaker, IfErr-weaker}
use Rattle.kn_quant.specs.Pieces.{nodes_of, AreMarked, AreOnTop}
use Rattle.kn_quant.specs.Runs.{order_of, IsFirstWide}
use Rattle.kn_quant.specs.Eliminations.{AreInOrder, Gathers, TurnStops, WorkStops, Concludes}
use Rattle.kn_quant.proofs.ProgressLemmas.{if-wide-stage}
use Rattle.kn_quant.proofs.OrderLemmas.{all-in-order}
use Rattle.kn_quant.proofs.JoinedLemmas.{rest_of, none-of}
use Rattle.kn_quant.proofs.PieceLemmas.{aux-on-top, nodes-none, first-slot}
use Rattle.kn_quant.proofs.RunLemmas.{InTurn, in-turn-first, in-turn-next, turn-first-wide, conclude-first-wide, elimination-of, elimination-never}
use Rattle.kn_quant.proofs.run.eliminate.Goals as goal

pub take_all-requires-clause-within : goal.take_all-requires-clause-within
take_all-requires-clause-within c =
    let order : c.new-work.result.table.order ≡ order_of c.args.group.now = search rules in
    subst (λ o. AllByRecursion (AreInOrder o) c.taken.result.now) (sym order)
    (subst (AllByRecursion (AreInOrder (order_of c.args.group.now))) (sym c.taken.ensures.value) (all-in-order c.args.group.now c.args.group.now.taken c.taken.ensures.group.covered))

pub take_all-requires-clause-on_top : goal.take_all-requires-clause-on_top
take_all-requires-clause-on_top c =
    let order : c.new-work.result.table.order ≡ order_of c.args.group.now = search rules in
    subst (λ o. AreOnTop o c.aux.result.now) (sym order) (subst (AreOnTop (order_of c.args.group.now)) (sym c.aux.ensures.value) (aux-on-top c.args.group.now c.taken.ensures.group))

pub loop-left-init : goal.loop-left-init
loop-left-init c =
    let g = c.args.group.now in
    let w = c.take_all.new.work in
    let order : c.new-work.result.table.order ≡ order_of g = search rules in
    let gathers = subst (λ cs. Gathers c.new-work.result w cs (nodes_of c.in_ok-pieces.pieces.items)) c.taken.ensures.value c.in_ok-pieces.ensures.gathers in
    record {
      turn = subst (λ ys. InTurn g w ys (nodes_of c.in_ok-pieces.pieces.items)) (sym c.aux-left.ensures.value)
          (in-turn-first g c.new-work.result w (nodes_of c.in_ok-pieces.pieces.items) order gathers);
      marked = subst (λ ys. AreMarked w.table ys c.in_ok-pieces.pieces.items) (c.aux.ensures.value ∙ sym c.aux-left.ensures.value) c.in_ok-pieces.ensures.marked;
      on_top = subst (AreOnTop w.table.order) (sym c.aux-left.ensures.value)
          (subst (λ o. AreOnTop o g.aux) (sym (gathers.kept.order ∙ order)) (aux-on-top g c.taken.ensures.group));
    }

pub returns-in_err-pieces-2-clause-wide : goal.returns-in_err-pieces-2-clause-wide
returns-in_err-pieces-2-clause-wide c =
    let g = c.args.group.now in
    let w = c.loop-left.work in
    let ns = nodes_of c.loop-left.pieces.items in
    let left = c.loop-left.left.now in
    let y = slice_index left 0 in
    let later = rest_of left in
    let is = first-slot left c.in-len1-up.len_at_least in
    let turn = subst (λ ys. InTurn g w ys ns) is c.loop-left.invariant.turn in
    let p = err_from_is_err_and c.from_residual-in_err-pieces-2.result c.from_residual-in_err-pieces-2.ensures.1 in
    rw (p.1, p.2) (if-wide-stage c.in_err-pieces-2.field-0.0 (TurnStops w y ns) (IsFirstWide g) (λ stage level s. turn-first-wide g w y later ns stage level turn s) c.in_err-pieces-2.ensures.wide)

pub loop-left-preserved : goal.loop-left-preserved
loop-left-preserved c =
    let g = c.args.group.now in
    let w = c.loop-left.work in
    let ns = nodes_of c.loop-left.pieces.items in
    let left = c.loop-left.left.now in
    let y = slice_index left 0 in
    let later = rest_of left in
    let is = first-slot left c.in-len1-up.len_at_least in
    let turn = subst (λ ys. InTurn g w ys ns) is c.loop-left.invariant.turn in
    let next = c.in_ok-pieces-2.pieces.items in
    record {
      turn = in-turn-next g w c.turn.new.work y later ns (nodes_of next) turn c.in_ok-pieces-2.ensures.turn
          (λ e. let k = c.in_ok-pieces-2.ensures.empty (nodes-none next e) in (ap nodes_of k.0, k.1));
      marked = c.in_ok-pieces-2.ensures.marked;
      on_top = subst (λ o. AreOnTop o later) (sym c.in_ok-pieces-2.ensures.turn.makes.kept.order) (subst (AreOnTop w.table.order) is c.loop-left.invariant.on_top).2;
    }

pub returns-clause-run : goal.returns-clause-run
returns-clause-run c =
    let g = c.args.group.now in
    let w = c.loop-left.work in
    let ns = nodes_of c.loop-left.pieces.items in
    let turn = subst (λ ys. InTurn g w ys ns) (none-of c.loop-left.left.now c.in_default.len_below) c.loop-left.invariant.turn in
    let all : c.deref-3.result.now ≡ ns = c.deref-3.ensures.value ∙ c.in_ok-nodes.ensures ∙ ap nodes_of c.deref-2.ensures.value in
    IfOk-weaker c.conclude.result _ _
    (λ e k. elimination-of g w e ns c.taken.ensures.group turn (subst (Concludes w e) all k))
    c.conclude.ensures.concludes

pub returns-clause-wide : goal.returns-clause-wide
returns-clause-wide c =
    let g = c.args.group.now in
    let w = c.loop-left.work in
    let ns = nodes_of c.loop-left.pieces.items in
    let turn = subst (λ ys. InTurn g w ys ns) (none-of c.loop-left.left.now c.in_default.len_below) c.loop-left.invariant.turn in
    let all : c.deref-3.result.now ≡ ns = c.deref-3.ensures.value ∙ c.in_ok-nodes.ensures ∙ ap nodes_of c.deref-2.ensures.value in
    IfErr-weaker c.conclude.result _ _
    (λ e k. if-wide-stage e (WorkStops w c.deref-3.result.now) (IsFirstWide g)
    (λ stage level s. conclude-first-wide g w ns stage level turn (subst (λ ps. WorkStops w ps stage level) all s)) k)
    c.conclude.ensures.wide

pub returns-clause-never : goal.returns-clause-never
returns-clause-never c =
    IfOk-weaker c.conclude.result _ _ (λ e k. elimination-never c.args.group.now e k) (returns-clause-run c)
