use Rattle.std.proofs.Common.{◌∙◌, sym, ap, subst, arith, nat_eq}
use Rattle.indexmap.specs.IndexSet.{insert_key}
use Rattle.kn_diagram.proofs.ReachLemmas.{Walk, walk-first, walk-there, walk-step, walk-nodes, walk-widths, walk-length, past-end}
use Rattle.kn_diagram.proofs.width.reached.Goals as goal

pub loop-place-init : goal.loop-place-init
loop-place-init c =
    subst (Walk c.args.d.now c.args.f 0) (sym (c.in_ok-insert.ensures ∙ ap (λ ns. insert_key nat_eq ns c.args.f) c.new-set.ensures))
    (walk-first c.args.d.now c.args.f c.count_to-place-end.ensures.table c.requires)

pub returns-in_default-clause-nodes : goal.returns-in_default-clause-nodes
returns-in_default-clause-nodes c =
    walk-nodes c.args.d.now c.args.f c.loop-place.place c.loop-place.set c.count_to-place-end.ensures.table c.requires c.loop-place.invariant

pub returns-in_default-clause-widths : goal.returns-in_default-clause-widths
returns-in_default-clause-widths c =
    walk-widths c.args.d.now c.args.f c.loop-place.place c.loop-place.set c.count_to-place-end.ensures.table c.requires c.loop-place.invariant
    (past-end c.loop-place.set c.loop-place.place (sym c.get.ensures ∙ c.in_default.is))

pub insert_below-requires : goal.insert_below-requires
insert_below-requires c =
    walk-there c.args.d.now c.args.f c.loop-place.place c.in-Some.node c.loop-place.set c.count_to-place-end.ensures.table c.requires c.loop-place.invariant c.in-Some.ensures

pub loop-place-preserved : goal.loop-place-preserved
loop-place-preserved c =
    walk-step c.args.d.now c.args.f c.loop-place.place c.in-Some.node c.loop-place.set c.insert_below.new.set c.count_to-place-end.ensures.table c.requires
    c.loop-place.invariant c.in-Some.ensures c.in_ok-insert_below.ensures

pub returns-clause-nodes : goal.returns-clause-nodes
returns-clause-nodes c =
    walk-nodes c.args.d.now c.args.f c.loop-place.place c.loop-place.set c.count_to-place-end.ensures.table c.requires c.loop-place.invariant

pub returns-clause-widths : goal.returns-clause-widths
returns-clause-widths c =
    walk-widths c.args.d.now c.args.f c.loop-place.place c.loop-place.set c.count_to-place-end.ensures.table c.requires c.loop-place.invariant
    (omega (arith, walk-length c.args.d.now c.args.f c.loop-place.place c.loop-place.set c.count_to-place-end.ensures.table c.requires c.loop-place.invariant, c.count_to-place-end.ensures.count))
