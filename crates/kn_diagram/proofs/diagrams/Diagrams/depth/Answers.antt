use Rattle.std.proofs.Common.{◌≡◌, ◌<◌, ◌∙◌, sym, ap, subst, length, arith, rules}
use Rattle.kn_diagram.specs.Diagrams.{depth_of, IsTable}
use Rattle.kn_diagram.proofs.NodeLemmas.{depth_of-constant, depth_of-branch}
use Rattle.kn_diagram.proofs.diagrams.Diagrams.depth.Goals as goal

pub returns-then-number-lt2-clause-value : goal.returns-then-number-lt2-clause-value
returns-then-number-lt2-clause-value c =
    let low : c.args.node < 2 = omega arith in
    let l : c.len.result ≡ length c.self.inside.order.items = search rules in
    l ∙ (λ i. length (c.self.view_is i).order) ∙ sym (depth_of-constant c.args.self.now c.args.node low)

pub returns-clause-value : goal.returns-clause-value
unfolding depth_of
returns-clause-value c =
    sym (ap (λ r. r.depth) (c.row-depth.ensures (length c.self.inside.order.items)))
    ∙ (λ i. depth_of (c.self.view_is i) (c.number-number.ensures i))

pub returns-clause-branch : goal.returns-clause-branch
unfolding depth_of
returns-clause-branch c two =
    let own : c.row-depth.result.0 ≡ depth_of c.args.self.now c.args.node =
    sym (ap (λ r. r.depth) (c.row-depth.ensures (length c.self.inside.order.items)))
    ∙ (λ i. depth_of (c.self.view_is i) (c.number-number.ensures i)) in
    omega (arith, own, depth_of-branch c.args.self.now c.args.node (subst IsTable c.self.view_is c.self.invariant) c.requires two)
