use Rattle.std.proofs.Common.{◌≡◌, ◌<◌, ◌≤◌, ◌∙◌, sym, ap, subst, length, arith}
use Rattle.kn_diagram.specs.Diagrams.{depth_of, high_of, low_of, IsTable}
use Rattle.kn_diagram.proofs.NodeLemmas.{depth_of-constant, split-apart, split-is}
use Rattle.kn_diagram.proofs.diagrams.Diagrams.halves.Goals as goal

pub returns-then-number-lt2 : goal.returns-then-number-lt2
returns-then-number-lt2 c =
    let low : c.args.node < 2 = omega arith in
    let e = depth_of-constant c.args.self.now c.args.node low in
    split-apart c.args.self.now c.args.node c.args.depth c.requires.there (omega (arith, e, c.requires.within))

pub returns-then-own-depth : goal.returns-then-own-depth
unfolding depth_of high_of low_of
returns-then-own-depth c =
    let at = c.row-own.ensures (length c.self.inside.order.items) in
    let two : 2 ≤ c.args.node = omega arith in
    split-is c.args.self.now c.args.node c.args.depth c.new.result c.new-then-own-depth.result
    (subst IsTable c.self.view_is c.self.invariant) c.requires.there two
    ((λ i. depth_of (sym c.self.view_is i) (sym c.number-number.ensures i)) ∙ ap (λ r. r.depth) at ∙ c.if-own-depth.true)
    ((λ i. high_of (sym c.self.view_is i) (sym c.number-number.ensures i)) ∙ ap (λ r. r.high) at ∙ sym c.new.ensures)
    ((λ i. low_of (sym c.self.view_is i) (sym c.number-number.ensures i)) ∙ ap (λ r. r.low) at ∙ sym c.new-then-own-depth.ensures)

pub returns-else-own-depth : goal.returns-else-own-depth
unfolding depth_of
returns-else-own-depth c =
    let at = c.row-own.ensures (length c.self.inside.order.items) in
    let own : depth_of c.args.self.now c.args.node ≡ c.row-own.result.0 =
    (λ i. depth_of (sym c.self.view_is i) (sym c.number-number.ensures i)) ∙ ap (λ r. r.depth) at in
    split-apart c.args.self.now c.args.node c.args.depth c.requires.there (omega (arith, own, c.requires.above, c.if-own-depth.false))
