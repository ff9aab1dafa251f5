use Rattle.std.proofs.Common.{◌∙◌, ap, sym, arith}
use Rattle.std.proofs.lemmas.List.{take_all}
use Rattle.kn_store.specs.Kept.{without_id, changed}
use Rattle.kn_store.proofs.Changed.{changed-more, known-read}
use Rattle.kn_store.proofs.lists.leave_all.Goals as goal

pub loop-lit-preserved : goal.loop-lit-preserved
loop-lit-preserved c =
    let known = known-read _ c.args.lits.now c.loop-lit.lit-index c.lit-item.result c.requires c.loop-lit-test.true c.lit-item.is in
    let var = c.var.ensures.value in
    let low = c.var.ensures.counted in
    let long = c.loop-lit.auto.lists in
    changed-more (without_id c.args.id) c.args.lists.now c.loop-lit.lists c.args.lits.now c.loop-lit.lit-index c.var.result c.lit-item.result c.index-lists-var.result c.leave.new.self
    c.loop-lit.invariant c.loop-lit-test.true c.lit-item.is var c.index-lists-var.is (let high = known.1 in omega (arith, high, var, low, long)) (c.leave.ensures ∙ ap (without_id c.args.id) (sym c.index-lists-var.is))

pub returns : goal.returns
returns c = c.loop-lit.invariant ∙ ap (changed (without_id c.args.id) c.args.lists.now) (take_all c.loop-lit.lit-index c.args.lits.now c.loop-lit-test.false)
