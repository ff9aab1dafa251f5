use Rattle.std.proofs.Common.{length, sym, subst, ap, ◌∙◌, arith}
use Rattle.std.proofs.lemmas.Bool.{ltb-true}
use Rattle.kn_diagram.specs.Diagrams.{function_of}
use Rattle.kn_verdict.specs.Numbers.{AreFewest, constant_of}
use Rattle.kn_verdict.proofs.Borders.{measured-constant, measured-branch, found-measured, noted-measured, place-within, node-literal}
use Rattle.kn_verdict.proofs.measure.+measure.Goals as goal

pub returns-in_default-clause-measured : goal.returns-in_default-clause-measured
returns-in_default-clause-measured t c =
    let g = c.args.group.now in
    let d = c.args.d.now in
    let node = c.args.node in
    subst (AreFewest g.border (function_of d node)) (sym (c.of_constant.ensures ∙ (λ i. constant_of (length (c.border.ensures.value i)) (c.eq.ensures i))))
    (measured-constant g d node c.border.ensures.group c.requires.node.table (ltb-true node 2 (sym c.in_default.ensures.constant)))

pub returns-in-Some-get-clause-measured : goal.returns-in-Some-get-clause-measured
returns-in-Some-get-clause-measured t c =
    found-measured c.args.group.now c.args.d.now c.args.noted.now c.args.node c.in-Some-get.numbers c.requires.noted (sym c.in-Some-get.ensures)

pub bounds-border-place_of : goal.bounds-border-place_of
bounds-border-place_of t c =
    omega (arith, ap length c.border-2.ensures.value, place-within c.args.group.now c.place_of.result _ c.place_of.ensures)

pub returns-clause-measured : goal.returns-clause-measured
returns-clause-measured t c =
    let g = c.args.group.now in
    let d = c.args.d.now in
    let p = c.in-Some.parts in
    let l = c.index-border-place_of.result in
    let b = c.in-Some.ensures.branch in
    let (there, own) = node-literal g d c.args.node p.0 p.1 p.2 c.place_of.result l c.border-2.result.now b c.place_of.ensures c.border-2.ensures.value c.index-border-place_of.is in
    subst (AreFewest g.border (function_of d c.args.node)) (sym c.joined-numbers.ensures)
    (measured-branch g d c.args.node p.0 p.1 p.2 l c.in_ok-high.high c.in_ok-low.low c.border-2.ensures.group c.requires.node.table b there own c.in_ok-high.ensures.measured c.in_ok-low.ensures.measured)

pub returns-clause-noted : goal.returns-clause-noted
returns-clause-noted t c =
    noted-measured c.args.group.now c.args.d.now c.measure-2.new.noted c.note.new.noted c.args.node c.joined-numbers.result c.in_ok-low.ensures.noted
    (returns-clause-measured t c) c.in_ok-note.ensures.ok
