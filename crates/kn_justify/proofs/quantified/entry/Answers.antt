use Rattle.std.proofs.Common.{◌≡◌, ◌≤◌, ◌<◌, sym, ◌∙◌, arith}
use Rattle.std.proofs.lemmas.Bool.{ltb-true}
use Rattle.kn_diagram.specs.Diagrams.{depth_of, depth_in}
use Rattle.kn_justify.proofs.ReducedLemmas.{constant-settled, below-settled, is-at, is-above, first-half, second-half, high-part, low-part, not-missing}
use Rattle.kn_justify.proofs.quantified.entry.Goals as goal

pub returns-in_default-clause-settled : goal.returns-in_default-clause-settled
returns-in_default-clause-settled g c =
    constant-settled c.args.log.now.state.given c.args.d.now c.args.named.now c.args.basis.now.var c.args.m.now.u c.args.m.now.w c.depth-own.ensures.table c.requires.parts.is_right (ltb-true _ _ (sym c.in_default.ensures.constant))

pub returns-then-basis-own-clause-settled : goal.returns-then-basis-own-clause-settled
returns-then-basis-own-clause-settled g c =
    below-settled c.args.log.now.state.given c.args.d.now c.args.named.now c.args.basis.now.var c.args.basis.now.left c.args.basis.now.right c.args.lemmas.now c.args.m.now c.depth-own.result c.args.basis.now.place c.requires.parts c.depth-own.ensures.value c.requires.place c.if-basis-own.true

pub at_variable-requires-clause-high : goal.at_variable-requires-clause-high
at_variable-requires-clause-high g c =
    let b = c.in-Some.ensures.branch in
    let at : depth_of c.args.d.now c.args.m.now.u ≡ depth_in c.args.d.now.order c.args.basis.now.var = is-at c.args.d.now c.args.m.now.u c.in-Some.parts.0 c.args.basis.now.var c.in-Some.parts.1 c.in-Some.parts.2 b c.if-var-basis.true in
    first-half c.args.log.now.state.given c.args.d.now c.args.named.now c.args.basis.now.var c.args.basis.now.left c.args.basis.now.right c.args.lemmas.now c.args.m.now c.alone-seen.result c.depth-own.result c.in-Some.parts.1 c.in-Some.parts.2 c.get.result c.in-Some-get.first c.depth-own.ensures.table c.requires.parts at
    c.depth-own.ensures.value b.high_is b.low_is c.alone-seen.ensures c.requires.left c.get.ensures c.in-Some-get.is

pub at_variable-requires-clause-low : goal.at_variable-requires-clause-low
at_variable-requires-clause-low g c =
    let b = c.in-Some.ensures.branch in
    let at : depth_of c.args.d.now c.args.m.now.u ≡ depth_in c.args.d.now.order c.args.basis.now.var = is-at c.args.d.now c.args.m.now.u c.in-Some.parts.0 c.args.basis.now.var c.in-Some.parts.1 c.in-Some.parts.2 b c.if-var-basis.true in
    second-half c.args.log.now.state.given c.args.d.now c.args.named.now c.args.basis.now.var c.args.basis.now.left c.args.basis.now.right c.args.lemmas.now c.args.m.now c.alone-seen.result c.depth-own.result c.in-Some.parts.1 c.in-Some.parts.2 c.get-then-var-basis.result c.in-Some-get-2.second c.depth-own.ensures.table c.requires.parts at
    c.depth-own.ensures.value b.high_is b.low_is c.alone-seen.ensures c.requires.right c.get-then-var-basis.ensures c.in-Some-get-2.is

pub unreachable-requires-in_default-get-3 : goal.unreachable-requires-in_default-get-3
unreachable-requires-in_default-get-3 g c =
    let b = c.in-Some.ensures.branch in
    let above = is-above c.args.d.now c.args.m.now.u c.in-Some.parts.0 c.args.basis.now.var c.in-Some.parts.1 c.in-Some.parts.2 c.depth-own.result c.args.basis.now.place b c.depth-own.ensures.value c.requires.place c.if-basis-own.false c.if-var-basis.false in
    not-missing c.args.lemmas.now c.in-Some.parts.1 c.in-Some.parts.1 _ _ c.get-2.result (c.requires.parts.highs above) b.high_is b.high_is c.get-2.ensures c.in_default-get-3.is

pub unreachable-requires-in_default-get-4 : goal.unreachable-requires-in_default-get-4
unreachable-requires-in_default-get-4 g c =
    let b = c.in-Some.ensures.branch in
    let above = is-above c.args.d.now c.args.m.now.u c.in-Some.parts.0 c.args.basis.now.var c.in-Some.parts.1 c.in-Some.parts.2 c.depth-own.result c.args.basis.now.place b c.depth-own.ensures.value c.requires.place c.if-basis-own.false c.if-var-basis.false in
    not-missing c.args.lemmas.now c.in-Some.parts.2 c.in-Some.parts.2 _ _ c.get-3.result (c.requires.parts.lows above) b.low_is b.low_is c.get-3.ensures c.in_default-get-4.is

pub pair-requires-clause-high : goal.pair-requires-clause-high
pair-requires-clause-high g c =
    let b = c.in-Some.ensures.branch in
    let above = is-above c.args.d.now c.args.m.now.u c.in-Some.parts.0 c.args.basis.now.var c.in-Some.parts.1 c.in-Some.parts.2 c.depth-own.result c.args.basis.now.place b c.depth-own.ensures.value c.requires.place c.if-basis-own.false c.if-var-basis.false in
    high-part c.args.log.now.state.given c.args.d.now c.args.named.now c.args.basis.now.var c.args.basis.now.left c.args.basis.now.right c.args.lemmas.now c.args.m.now c.alone-seen.result c.depth-own.result c.in-Some.parts.1 c.get-2.result c.in-Some-get-3.first c.depth-own.ensures.table
    (omega (arith, c.depth-own.ensures.value, b.within)) c.requires.parts above c.depth-own.ensures.value b.high_is c.alone-seen.ensures c.requires.reduced c.get-2.ensures c.in-Some-get-3.is

pub pair-requires-clause-low : goal.pair-requires-clause-low
pair-requires-clause-low g c =
    let b = c.in-Some.ensures.branch in
    let above = is-above c.args.d.now c.args.m.now.u c.in-Some.parts.0 c.args.basis.now.var c.in-Some.parts.1 c.in-Some.parts.2 c.depth-own.result c.args.basis.now.place b c.depth-own.ensures.value c.requires.place c.if-basis-own.false c.if-var-basis.false in
    low-part c.args.log.now.state.given c.args.d.now c.args.named.now c.args.basis.now.var c.args.basis.now.left c.args.basis.now.right c.args.lemmas.now c.args.m.now c.alone-seen.result c.depth-own.result c.in-Some.parts.2 c.get-3.result c.in-Some-get-4.second c.depth-own.ensures.table
    (omega (arith, c.depth-own.ensures.value, b.within)) c.requires.parts above c.depth-own.ensures.value b.low_is c.alone-seen.ensures c.requires.reduced c.get-3.ensures c.in-Some-get-4.is
