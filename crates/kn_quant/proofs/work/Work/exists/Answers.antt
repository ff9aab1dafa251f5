use Rattle.std.proofs.Common.{◌≡◌, ◌-◌, ◌∙◌, sym, ap, subst, rules, length, [], ◌∷◌}
use Rattle.kn_quant.specs.declared.stage.Stage.TheVariants.{Exists}
use Rattle.kn_diagram.specs.Diagrams.{function_of}
use Rattle.kn_quant.specs.Quantified.{Quantifies}
use Rattle.kn_quant.specs.Runs.{Quantify}
use Rattle.kn_quant.specs.Eliminations.{has_node, IsProgress, Makes, StopsIn, IfWideStage}
use Rattle.kn_quant.proofs.ProgressLemmas.{progress, node-there, Adds, adds-exists, progress-kept, progress-added, makes-added, stops-next}
use Rattle.kn_quant.proofs.work.Work.exists.Goals as goal

pub exists-requires-clause-there : goal.exists-requires-clause-there
exists-requires-clause-there c =
    node-there c.self.inside.diagrams [] c.self.inside.stages.items c.args.from c.self.invariant.stages ((λ i. has_node (c.self.view_is i).stages c.args.from) ∙ c.requires.there)

pub invariant_of-self : goal.invariant_of-self
invariant_of-self c =
    subst (λ ss. IsProgress (record { table = c.exists.new.d; stages = ss; buckets = c.self.inside.buckets.items; taken = c.self.inside.taken })) (sym c.in_err-push-in-Ok.ensures.err)
    (progress-kept (progress c.self.inside.diagrams c.self.inside.stages.items c.self.inside.buckets.items c.self.inside.taken) c.exists.new.d c.exists.ensures.kept c.self.invariant)

adds : (c : goal.In_ok-push-in-Ok) → Adds (progress c.self.inside.diagrams c.self.inside.stages.items c.self.inside.buckets.items c.self.inside.taken) c.exists.new.d (Exists c.args.var c.args.from c.in-Ok.node c.exists.new.trace c.exists.new.halves)
    (Quantify c.args.var (function_of c.self.inside.diagrams c.args.from))
adds c =
    adds-exists (progress c.self.inside.diagrams c.self.inside.stages.items c.self.inside.buckets.items c.self.inside.taken) c.exists.new.d c.args.var c.args.from c.in-Ok.node c.exists.new.trace c.exists.new.halves c.self.invariant ((λ i. has_node (c.self.view_is i).stages c.args.from) ∙ c.requires.there)
    c.in-Ok.ensures.kept c.in-Ok.ensures.node c.in-Ok.ensures.function (subst (λ old. Quantifies c.exists.new.d c.args.var [] c.exists.new.trace old c.exists.new.halves c.args.from c.in-Ok.node) c.new-halves.ensures
    (subst (λ old. Quantifies c.exists.new.d c.args.var old c.exists.new.trace c.new-halves.result c.exists.new.halves c.args.from c.in-Ok.node) c.new-met.ensures c.in-Ok.ensures.traced)) c.in-Ok.ensures.narrow

pub invariant_of-self-in-Ok : goal.invariant_of-self-in-Ok
invariant_of-self-in-Ok c =
    subst (λ ss. IsProgress (record { table = c.exists.new.d; stages = ss; buckets = c.self.inside.buckets.items; taken = c.self.inside.taken })) (sym c.in_ok-push-in-Ok.ensures.ok)
    (progress-added (progress c.self.inside.diagrams c.self.inside.stages.items c.self.inside.buckets.items c.self.inside.taken) c.exists.new.d (Exists c.args.var c.args.from c.in-Ok.node c.exists.new.trace c.exists.new.halves)
    (Quantify c.args.var (function_of c.self.inside.diagrams c.args.from)) c.self.invariant (adds c))

pub invariant_of-self-in-Err-1 : goal.invariant_of-self-in-Err-1
invariant_of-self-in-Err-1 c = progress-kept (progress c.self.inside.diagrams c.self.inside.stages.items c.self.inside.buckets.items c.self.inside.taken) c.exists.new.d c.exists.ensures.kept c.self.invariant

pub returns-in_ok-push-in-Ok-clause-makes : goal.returns-in_ok-push-in-Ok-clause-makes
returns-in_ok-push-in-Ok-clause-makes c =
    subst (λ old. Makes old (record { table = c.exists.new.d; stages = c.push.new.stages.items; buckets = c.self.inside.buckets.items; taken = c.self.inside.taken })
    (Quantify c.args.var (function_of old.table c.args.from) ∷ []) []) c.self.view_is
    (subst (λ ss. Makes (progress c.self.inside.diagrams c.self.inside.stages.items c.self.inside.buckets.items c.self.inside.taken) (record { table = c.exists.new.d; stages = ss; buckets = c.self.inside.buckets.items; taken = c.self.inside.taken })
    (Quantify c.args.var (function_of c.self.inside.diagrams c.args.from) ∷ []) []) (sym c.in_ok-push-in-Ok.ensures.ok)
    (makes-added (progress c.self.inside.diagrams c.self.inside.stages.items c.self.inside.buckets.items c.self.inside.taken) c.exists.new.d (Exists c.args.var c.args.from c.in-Ok.node c.exists.new.trace c.exists.new.halves)
    (Quantify c.args.var (function_of c.self.inside.diagrams c.args.from)) c.self.invariant (adds c)))

pub returns-in-Err-clause-wide : goal.returns-in-Err-clause-wide
returns-in-Err-clause-wide c =
    let len : c.len.result ≡ length c.self.inside.stages.items = search rules in
    subst (λ old. IfWideStage c.error_after.result (StopsIn old (Quantify c.args.var (function_of old.table c.args.from) ∷ []))) c.self.view_is
    (stops-next (progress c.self.inside.diagrams c.self.inside.stages.items c.self.inside.buckets.items c.self.inside.taken) (Quantify c.args.var (function_of c.self.inside.diagrams c.args.from)) (c.len.result - c.self.inside.taken) c.in-Err.error
    c.error_after.result c.self.invariant (ap (λ n. n - c.self.inside.taken) len) c.error_after.ensures c.in-Err.ensures.wide)
