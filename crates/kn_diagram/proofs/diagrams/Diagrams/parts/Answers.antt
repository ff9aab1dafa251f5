use Rattle.std.proofs.Common.{◌≡◌, ◌≤◌, ◌∙◌, sym, ap, subst, length, arith, slice_index}
use Rattle.std.proofs.lemmas.Grind.{get_or_default_zero}
use Rattle.kn_diagram.specs.Diagrams.{depth_of, high_of, low_of, IsTable}
use Rattle.kn_diagram.proofs.NodeLemmas.{depth_of-branch, branch-is}
use Rattle.kn_diagram.proofs.diagrams.Diagrams.parts.Goals as goal

pub index-requires : goal.index-requires
unfolding depth_of
index-requires c =
    let two : 2 ≤ c.args.f = omega arith in
    let own : c.row-depth.result.0 ≡ depth_of c.args.self.now c.args.f =
    sym (ap (λ r. r.depth) (c.row-depth.ensures (length c.self.inside.order.items)))
    ∙ (λ i. depth_of (c.self.view_is i) (c.number-number.ensures i)) in
    let len : length c.self.inside.order.items ≡ length c.args.self.now.order = λ i. length (c.self.view_is i).order in
    let d = depth_of-branch c.args.self.now c.args.f (subst IsTable c.self.view_is c.self.invariant) c.requires two in
    omega (arith, own, len, d)

pub returns-clause-branch : goal.returns-clause-branch
unfolding depth_of high_of low_of
returns-clause-branch c =
    let two : 2 ≤ c.args.f = omega arith in
    let at = c.row-depth.ensures (length c.self.inside.order.items) in
    let own : c.row-depth.result.0 ≡ depth_of c.args.self.now c.args.f =
    sym (ap (λ r. r.depth) at) ∙ (λ i. depth_of (c.self.view_is i) (c.number-number.ensures i)) in
    let d = depth_of-branch c.args.self.now c.args.f (subst IsTable c.self.view_is c.self.invariant) c.requires two in
    let len : length c.self.inside.order.items ≡ length c.args.self.now.order = λ i. length (c.self.view_is i).order in
    branch-is c.args.self.now c.args.f c.index.result.now c.new.result c.new-2.result (subst IsTable c.self.view_is c.self.invariant) c.requires two
    (c.index.ensures ∙ get_or_default_zero c.self.inside.order.items c.row-depth.result.0 c.index.result.now (omega (arith, own, len, d))
    ∙ (λ i. slice_index (c.self.view_is i).order (own i)))
    (c.new.ensures ∙ sym (ap (λ r. r.high) at) ∙ (λ i. high_of (c.self.view_is i) (c.number-number.ensures i)))
    (c.new-2.ensures ∙ sym (ap (λ r. r.low) at) ∙ (λ i. low_of (c.self.view_is i) (c.number-number.ensures i)))
