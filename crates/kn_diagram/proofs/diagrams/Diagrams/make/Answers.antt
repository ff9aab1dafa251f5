use Rattle.std.proofs.Common.{◌≡◌, ◌∙◌, ap, rules, slice_index, if◌then◌else◌}
use Rattle.std.proofs.lemmas.Result.{IfOk-weaker}
use Rattle.kn_diagram.specs.Diagrams.{function_of, depth_in}
use Rattle.kn_diagram.proofs.NodeLemmas.{slice_index-depth_in}
use Rattle.kn_diagram.proofs.diagrams.Diagrams.make.Goals as goal

pub returns-clause-function : goal.returns-clause-function
returns-clause-function c =
    let e : c.depth_in-depth.result ≡ depth_in c.args.self.now.order c.args.var = search rules in
    let at : slice_index c.args.self.now.order c.depth_in-depth.result ≡ c.args.var =
    ap (slice_index c.args.self.now.order) e ∙ slice_index-depth_in c.args.self.now.order c.args.var c.requires.within in
    IfOk-weaker c.make_at.result _ _
    (λ w m v. m.function v ∙ (λ i. if v (at i) then function_of c.args.self.now c.args.high v else function_of c.args.self.now c.args.low v))
    c.make_at.ensures.made
