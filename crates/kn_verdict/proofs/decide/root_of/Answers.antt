use Rattle.std.proofs.Common.{length, ap, subst, ◌∙◌, arith}
use Rattle.kn_diagram.specs.Diagrams.{IsTable, IsNode, depth_of}
use Rattle.kn_verdict.proofs.Deciding.{root-below}
use Rattle.kn_verdict.proofs.decide.root_of.Goals as goal

pub prove-unreachable-requires : goal.prove-unreachable-requires
prove-unreachable-requires c =
    let g = c.args.group.now in
    let e = c.args.elimination.now in
    let ok : IsTable e.table = subst IsTable c.diagrams.ensures.value c.depth-depth.ensures.table in
    let below = root-below g e c.aux.ensures.group c.requires ok (subst (IsNode e.table) c.result-root.ensures.value c.result-root.ensures.there) in
    omega (arith, c.if-prove.true, ap length c.aux.ensures.value, below, c.depth-depth.ensures.value ∙ (λ i. depth_of (c.diagrams.ensures.value i) (c.result-root.ensures.value i)))
