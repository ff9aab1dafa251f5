use Rattle.std.proofs.Common.{◌≡◌, ◌-◌, ◌∙◌, ◌&&◌, sym, ap, subst, rules, length, [], ◌∷◌}
use Rattle.kn_quant.specs.declared.stage.Stage.TheVariants.{And}
use Rattle.kn_diagram.specs.Diagrams.{function_of}
use Rattle.kn_diagram.specs.Traces.{Explains}
use Rattle.kn_quant.specs.Runs.{Join}
use Rattle.kn_quant.specs.Eliminations.{has_node, IsProgress, Makes, StopsIn, IfWideStage}
use Rattle.kn_quant.proofs.ProgressLemmas.{progress, node-there, Adds, adds-and, progress-kept, progress-added, makes-added, stops-next}
use Rattle.kn_quant.proofs.work.Work.and.Goals as goal

pub and-requires-clause-f_there : goal.and-requires-clause-f_there
and-requires-clause-f_there c =
    node-there c.self.inside.diagrams [] c.self.inside.stages.items c.args.left c.self.invariant.stages ((λ i. has_node (c.self.view_is i).stages c.args.left) ∙ c.requires.left)

pub and-requires-clause-g_there : goal.and-requires-clause-g_there
and-requires-clause-g_there c =
    node-there c.self.inside.diagrams [] c.self.inside.stages.items c.args.right c.self.invariant.stages ((λ i. has_node (c.self.view_is i).stages c.args.right) ∙ c.requires.right)

pub invariant_of-self : goal.invariant_of-self
invariant_of-self c =
    subst (λ ss. IsProgress (record { table = c.and.new.self; stages = ss; buckets = c.self.inside.buckets.items; taken = c.self.inside.taken })) (sym c.in_err-push-in-Ok.ensures.err)
    (progress-kept (progress c.self.inside.diagrams c.self.inside.stages.items c.self.inside.buckets.items c.self.inside.taken) c.and.new.self c.and.ensures.kept c.self.invariant)

adds : (c : goal.In_ok-push-in-Ok) → Adds (progress c.self.inside.diagrams c.self.inside.stages.items c.self.inside.buckets.items c.self.inside.taken) c.and.new.self (And c.args.left c.args.right c.in-Ok.node c.and.new.trace)
    (Join (function_of c.self.inside.diagrams c.args.left) (function_of c.self.inside.diagrams c.args.right))
adds c =
    adds-and (progress c.self.inside.diagrams c.self.inside.stages.items c.self.inside.buckets.items c.self.inside.taken) c.and.new.self c.args.left c.args.right c.in-Ok.node c.and.new.trace c.self.invariant ((λ i. has_node (c.self.view_is i).stages c.args.left) ∙ c.requires.left) ((λ i. has_node (c.self.view_is i).stages c.args.right) ∙ c.requires.right)
    c.in-Ok.ensures.kept c.in-Ok.ensures.node c.in-Ok.ensures.function (subst (λ old. Explains (λ a b. a && b) c.and.new.self old c.and.new.trace (record { u = c.args.left; v = c.args.right; w = c.in-Ok.node })) c.new-met.ensures c.in-Ok.ensures.traced) c.in-Ok.ensures.narrow

pub invariant_of-self-in-Ok : goal.invariant_of-self-in-Ok
invariant_of-self-in-Ok c =
    subst (λ ss. IsProgress (record { table = c.and.new.self; stages = ss; buckets = c.self.inside.buckets.items; taken = c.self.inside.taken })) (sym c.in_ok-push-in-Ok.ensures.ok)
    (progress-added (progress c.self.inside.diagrams c.self.inside.stages.items c.self.inside.buckets.items c.self.inside.taken) c.and.new.self (And c.args.left c.args.right c.in-Ok.node c.and.new.trace)
    (Join (function_of c.self.inside.diagrams c.args.left) (function_of c.self.inside.diagrams c.args.right)) c.self.invariant (adds c))

pub invariant_of-self-in-Err-1 : goal.invariant_of-self-in-Err-1
invariant_of-self-in-Err-1 c = progress-kept (progress c.self.inside.diagrams c.self.inside.stages.items c.self.inside.buckets.items c.self.inside.taken) c.and.new.self c.and.ensures.kept c.self.invariant

pub returns-in_ok-push-in-Ok-clause-makes : goal.returns-in_ok-push-in-Ok-clause-makes
returns-in_ok-push-in-Ok-clause-makes c =
    subst (λ old. Makes old (record { table = c.and.new.self; stages = c.push.new.stages.items; buckets = c.self.inside.buckets.items; taken = c.self.inside.taken })
    (Join (function_of old.table c.args.left) (function_of old.table c.args.right) ∷ []) []) c.self.view_is
    (subst (λ ss. Makes (progress c.self.inside.diagrams c.self.inside.stages.items c.self.inside.buckets.items c.self.inside.taken) (record { table = c.and.new.self; stages = ss; buckets = c.self.inside.buckets.items; taken = c.self.inside.taken })
    (Join (function_of c.self.inside.diagrams c.args.left) (function_of c.self.inside.diagrams c.args.right) ∷ []) []) (sym c.in_ok-push-in-Ok.ensures.ok)
    (makes-added (progress c.self.inside.diagrams c.self.inside.stages.items c.self.inside.buckets.items c.self.inside.taken) c.and.new.self (And c.args.left c.args.right c.in-Ok.node c.and.new.trace)
    (Join (function_of c.self.inside.diagrams c.args.left) (function_of c.self.inside.diagrams c.args.right)) c.self.invariant (adds c)))

pub returns-in-Err-clause-wide : goal.returns-in-Err-clause-wide
returns-in-Err-clause-wide c =
    let len : c.len.result ≡ length c.self.inside.stages.items = search rules in
    subst (λ old. IfWideStage c.error_after.result (StopsIn old (Join (function_of old.table c.args.left) (function_of old.table c.args.right) ∷ []))) c.self.view_is
    (stops-next (progress c.self.inside.diagrams c.self.inside.stages.items c.self.inside.buckets.items c.self.inside.taken) (Join (function_of c.self.inside.diagrams c.args.left) (function_of c.self.inside.diagrams c.args.right)) (c.len.result - c.self.inside.taken) c.in-Err.error
    c.error_after.result c.self.invariant (ap (λ n. n - c.self.inside.taken) len) c.error_after.ensures c.in-Err.ensures.wide)
