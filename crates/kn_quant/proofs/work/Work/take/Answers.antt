use Rattle.std.proofs.Common.{◌+◌, sym, subst}
use Rattle.kn_quant.specs.Eliminations.{IsProgress, Takes}
use Rattle.kn_quant.proofs.ProgressLemmas.{progress, progress-kept, progress-taken, takes-clause}
use Rattle.kn_quant.proofs.work.Work.take.Goals as goal

pub invariant_of-self : goal.invariant_of-self
invariant_of-self c = progress-kept (progress c.self.inside.diagrams c.self.inside.stages.items c.self.inside.buckets.items c.self.inside.taken) c.of_clause.new.self c.of_clause.ensures.kept c.self.invariant

pub invariant_of-self-in_err-push : goal.invariant_of-self-in_err-push
invariant_of-self-in_err-push c =
    subst (λ ss. IsProgress (record { table = c.of_clause.new.self; stages = ss; buckets = c.self.inside.buckets.items; taken = c.self.inside.taken })) (sym c.in_err-push.ensures.err)
    (progress-kept (progress c.self.inside.diagrams c.self.inside.stages.items c.self.inside.buckets.items c.self.inside.taken) c.of_clause.new.self c.of_clause.ensures.kept c.self.invariant)

pub invariant_of-self-2 : goal.invariant_of-self-2
invariant_of-self-2 c =
    subst (λ ss. IsProgress (record { table = c.of_clause.new.self; stages = ss; buckets = c.self.inside.buckets.items; taken = c.self.inside.taken + 1 })) (sym c.in_ok-push.ensures.ok)
    (progress-taken (progress c.self.inside.diagrams c.self.inside.stages.items c.self.inside.buckets.items c.self.inside.taken) c.of_clause.new.self c.in_ok-node.node c.self.invariant
    c.of_clause.ensures.kept c.in_ok-node.ensures.node)

pub returns : goal.returns
returns c =
    subst (λ old. Takes old (record { table = c.of_clause.new.self; stages = c.push.new.stages.items; buckets = c.self.inside.buckets.items; taken = c.self.inside.taken + 1 }) c.args.clause.now c.in_ok-node.node) c.self.view_is
    (subst (λ ss. Takes (progress c.self.inside.diagrams c.self.inside.stages.items c.self.inside.buckets.items c.self.inside.taken)
    (record { table = c.of_clause.new.self; stages = ss; buckets = c.self.inside.buckets.items; taken = c.self.inside.taken + 1 }) c.args.clause.now c.in_ok-node.node) (sym c.in_ok-push.ensures.ok)
    (takes-clause (progress c.self.inside.diagrams c.self.inside.stages.items c.self.inside.buckets.items c.self.inside.taken) c.of_clause.new.self c.args.clause.now c.in_ok-node.node c.self.invariant
    c.of_clause.ensures.kept c.in_ok-node.ensures.node c.in_ok-node.ensures.function))
