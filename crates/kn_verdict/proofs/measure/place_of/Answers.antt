use Rattle.std.proofs.Common.{◌<◌, ◌-◌, length, map, slice_get, arith, ap, ◌∙◌}
use Rattle.kn_logic.specs.Literals.{Literal}
use Rattle.kn_diagram.specs.Diagrams.{depth_of}
use Rattle.kn_verdict.proofs.Borders.{border-place, border-some}
use Rattle.kn_verdict.proofs.measure.place_of.Goals as goal

pub overflow_sub-below : goal.overflow_sub-below
overflow_sub-below c = omega (arith, c.depth.ensures.value, c.requires.node.below, ap length c.aux.ensures.value)

pub overflow_sub-result : goal.overflow_sub-result
overflow_sub-result c =
    let within : depth_of c.args.d.now c.args.node < length c.args.d.now.order = omega (arith, c.depth.ensures.value, c.depth.ensures.branch c.requires.two) in
    omega (arith, ap length c.border.ensures.value, border-some c.args.group.now c.args.d.now c.args.node c.requires.node within)

pub overflow_sub-result-2 : goal.overflow_sub-result-2
overflow_sub-result-2 c =
    let within : depth_of c.args.d.now c.args.node < length c.args.d.now.order = omega (arith, c.depth.ensures.value, c.depth.ensures.branch c.requires.two) in
    omega (arith, ap length c.border.ensures.value, ap length c.aux.ensures.value, c.depth.ensures.value, border-some c.args.group.now c.args.d.now c.args.node c.requires.node within)

pub returns : goal.returns
returns c =
    let g = c.args.group.now in
    let d = c.args.d.now in
    let within : depth_of d c.args.node < length d.order = omega (arith, c.depth.ensures.value, c.depth.ensures.branch c.requires.two) in
    (λ i. slice_get (map (λ (l : Literal). l.variable) g.border) (length (c.border.ensures.value i) - 1 - (c.depth.ensures.value i - length (c.aux.ensures.value i))))
    ∙ border-place g d c.args.node c.requires.node within
