use Rattle.std.proofs.Common.{◌+◌, refl, sym, ◌∙◌, subst, arith}
use Rattle.kn_watch.specs.Trails.{Trailed, literals}
use Rattle.kn_search.specs.declared.outcome.SearchError.TheVariants as failure
use Rattle.kn_search.specs.Outcomes.{error_of}
use Rattle.kn_search.specs.Deciding.{AreValuesOf}
use Rattle.kn_search.specs.Searches.{AreHeld, AreKept}
use Rattle.kn_search.proofs.Parts.{part-start, part-vars, fail-vars, part-learned, part-turn, turn-fails, may-fail, handed-on}
use Rattle.kn_search.proofs.Held.{held-none, kept-first}
use Rattle.kn_search.proofs.Models.{model-of}
use Rattle.kn_search.proofs.Closing.{known-still, whole-still, ends-short, ends-failed, ends-model, ends-refuted, kept-moved}
use Rattle.kn_search.proofs.searching.search.Goals as goal

pub loop-conflict-init : goal.loop-conflict-init
loop-conflict-init g c = record {
  logs = part-start c.args.engine.now.trail.vars c.args.options.now.forget c.new-held.result.deletions c.args.log.now _ c.new-held.ensures.deletions c.requires.whole;
  vars = refl;
  mirrors = c.requires.mirrors;
  held = subst (AreHeld c.args.log.now.state.given) (sym c.new-held.ensures.ids) (held-none c.args.log.now.state.given);
  kept = subst (AreKept c.args.engine.now.live c.args.engine.now.live) (sym c.new-held.ensures.ids) (kept-first c.args.engine.now.live);
  within = omega arith;
  later = omega arith;
}

pub returns-in_default-clause-ends : goal.returns-in_default-clause-ends
returns-in_default-clause-ends g c =
    let kept = kept-moved c.args.engine.now.live c.loop-conflict.engine.live c.dive.new.engine.live c.loop-conflict.held.ids.items c.dive.ensures.live c.loop-conflict.invariant.kept in
    ends-model c.args.engine.now c.args.options.now c.loop-conflict.learned c.loop-conflict.held.deletions c.args.log.now c.loop-conflict.log _ _ c.in_ok-values_of.field-0 c.loop-conflict.invariant.within c.loop-conflict.invariant.logs
    (model-of c.args.engine.now c.dive.new.engine c.in_ok-values_of.field-0 c.loop-conflict.held.ids.items c.new.ensures.apart (c.dive.ensures.vars ∙ c.loop-conflict.invariant.vars) kept c.dive.ensures.kept c.in_default.ensures.closed c.in_default.ensures.total
    (subst (λ (t : Trailed). AreValuesOf t.vars (literals t.made) c.in_ok-values_of.field-0) c.trail.ensures.value c.in_ok-values_of.ensures))

pub returns-in_err-refute-clause-error : goal.returns-in_err-refute-clause-error
returns-in_err-refute-clause-error g c =
    handed-on _ c.from_residual-in_err-refute.result (error_of c.in_err-refute.field-0.0) c.from_residual-in_err-refute.ensures.1
    (ends-failed c.args.engine.now c.args.options.now c.args.log.now c.refute.new.log _ _ c.in_err-refute.field-0.0
    (may-fail c.args.engine.now.trail.vars c.args.options.now.forget 0 c.loop-conflict.learned c.loop-conflict.held.deletions 0 c.args.options.now.conflicts c.args.log.now c.loop-conflict.log c.refute.new.log _ _ _ c.in_err-refute.field-0.0
    (omega (arith, c.loop-conflict.invariant.within)) c.loop-conflict.invariant.logs
    (c.in_err-refute.ensures.logs c.args.engine.now.trail.vars c.args.options.now.forget (0 + c.loop-conflict.held.deletions))))

pub returns-then-level-eq0-clause-ends : goal.returns-then-level-eq0-clause-ends
returns-then-level-eq0-clause-ends g c =
    ends-refuted c.args.engine.now c.args.options.now c.loop-conflict.learned c.loop-conflict.held.deletions c.args.log.now c.loop-conflict.log c.refute.new.log _ _ _ c.loop-conflict.invariant.within c.loop-conflict.invariant.logs
    (c.in_ok-refute.ensures.logs c.args.engine.now.trail.vars c.args.options.now.forget (0 + c.loop-conflict.held.deletions)) c.in_ok-refute.ensures.refuted

pub conclude-requires-clause-known : goal.conclude-requires-clause-known
conclude-requires-clause-known g c =
    known-still c.args.engine.now.trail.vars c.args.options.now.forget c.loop-conflict.learned c.loop-conflict.held.deletions c.args.log.now c.loop-conflict.log _ _ c.dive.new.engine.trail.vars c.loop-conflict.invariant.logs
    (c.dive.ensures.vars ∙ c.loop-conflict.invariant.vars) c.requires.known

pub returns-in_err-id-clause-error : goal.returns-in_err-id-clause-error
returns-in_err-id-clause-error g c =
    let vars = c.dive.ensures.vars ∙ c.loop-conflict.invariant.vars in
    handed-on _ c.from_residual-in_err-id.result (error_of c.in_err-id.field-0.0) c.from_residual-in_err-id.ensures.1
    (ends-failed c.args.engine.now c.args.options.now c.args.log.now c.conclude.new.log _ _ c.in_err-id.field-0.0
    (may-fail c.args.engine.now.trail.vars c.args.options.now.forget 0 c.loop-conflict.learned c.loop-conflict.held.deletions 1 c.args.options.now.conflicts c.args.log.now c.loop-conflict.log c.conclude.new.log _ _ _ c.in_err-id.field-0.0
    (omega (arith, c.loop-conflict.invariant.within, c.if-learned-options.false)) c.loop-conflict.invariant.logs
    (fail-vars c.dive.new.engine.trail.vars c.args.engine.now.trail.vars c.args.options.now.forget (0 + c.loop-conflict.held.deletions) 1 c.loop-conflict.log c.conclude.new.log _ _ c.in_err-id.field-0.0 vars
    (c.in_err-id.ensures.error c.args.options.now.forget (0 + c.loop-conflict.held.deletions)))))

pub returns-in_err-push-clause-error : goal.returns-in_err-push-clause-error
returns-in_err-push-clause-error g c =
    let vars = c.dive.ensures.vars ∙ c.loop-conflict.invariant.vars in
    handed-on _ c.from_residual-in_err-push.result failure.Memory c.from_residual-in_err-push.ensures.1
    (ends-short c.args.engine.now c.args.options.now (c.loop-conflict.learned + 1) (c.loop-conflict.held.deletions + 0) c.args.log.now c.conclude.new.log _ _
    (omega (arith, c.loop-conflict.invariant.within, c.if-learned-options.false))
    (part-learned c.args.engine.now.trail.vars c.args.options.now.forget c.loop-conflict.learned c.loop-conflict.held.deletions c.args.log.now c.loop-conflict.log c.conclude.new.log _ _ _ c.loop-conflict.invariant.logs
    (part-vars c.dive.new.engine.trail.vars c.args.engine.now.trail.vars c.args.options.now.forget (0 + c.loop-conflict.held.deletions) 1 0 c.loop-conflict.log c.conclude.new.log _ _ vars
    (c.in_ok-id.ensures.logs c.args.options.now.forget (0 + c.loop-conflict.held.deletions)))))

pub forget_some-requires-clause-whole : goal.forget_some-requires-clause-whole
forget_some-requires-clause-whole g c =
    whole-still c.dive.new.engine.trail.vars c.args.options.now.forget 0 1 0 c.loop-conflict.log c.conclude.new.log _ _ (c.in_ok-id.ensures.logs c.args.options.now.forget 0)

pub loop-conflict-preserved : goal.loop-conflict-preserved
loop-conflict-preserved g c =
    let vars = c.dive.ensures.vars ∙ c.loop-conflict.invariant.vars in
    let (more, is, forgot) = c.in_ok-forget_some.ensures.logs c.args.engine.now.trail.vars in
    record {
      logs = part-turn c.args.engine.now.trail.vars c.args.options.now.forget c.loop-conflict.learned c.loop-conflict.held.deletions c.push.new.self.deletions more c.forget_some.new.held.deletions c.args.log.now c.loop-conflict.log c.conclude.new.log c.forget_some.new.log _ _ _ _ c.loop-conflict.invariant.logs
          (part-vars c.dive.new.engine.trail.vars c.args.engine.now.trail.vars c.args.options.now.forget (0 + c.loop-conflict.held.deletions) 1 0 c.loop-conflict.log c.conclude.new.log _ _ vars
          (c.in_ok-id.ensures.logs c.args.options.now.forget (0 + c.loop-conflict.held.deletions)))
          c.in_ok-push.ensures.deletions is forgot;
      vars = c.in_ok-forget_some.ensures.vars ∙ c.in_ok-id.ensures.vars ∙ vars;
      mirrors = c.in_ok-forget_some.ensures.mirrors;
      held = c.in_ok-forget_some.ensures.held;
      kept = c.in_ok-forget_some.ensures.kept c.args.engine.now.live
          (subst (AreKept c.args.engine.now.live c.conclude.new.engine.live) (sym c.in_ok-push.ensures.ids)
          (c.in_ok-id.ensures.kept c.args.engine.now.live c.loop-conflict.held.ids.items
          (kept-moved c.args.engine.now.live c.loop-conflict.engine.live c.dive.new.engine.live c.loop-conflict.held.ids.items c.dive.ensures.live c.loop-conflict.invariant.kept)));
      within = omega (arith, c.loop-conflict.invariant.within, c.if-learned-options.false);
      later = omega (arith, c.loop-conflict.invariant.later, c.conclude.ensures.later, c.forget_some.ensures.later);
    }

pub returns-in_err-forget_some-clause-error : goal.returns-in_err-forget_some-clause-error
returns-in_err-forget_some-clause-error g c =
    let vars = c.dive.ensures.vars ∙ c.loop-conflict.invariant.vars in
    handed-on _ c.from_residual-in_err-forget_some.result (error_of c.in_err-forget_some.field-0.0) c.from_residual-in_err-forget_some.ensures.1
    (ends-failed c.args.engine.now c.args.options.now c.args.log.now c.forget_some.new.log _ _ c.in_err-forget_some.field-0.0
    (turn-fails c.args.engine.now.trail.vars c.args.options.now.forget c.loop-conflict.learned c.loop-conflict.held.deletions c.push.new.self.deletions c.args.options.now.conflicts c.args.log.now c.loop-conflict.log c.conclude.new.log c.forget_some.new.log _ _ _ _ c.in_err-forget_some.field-0.0
    (omega (arith, c.loop-conflict.invariant.within, c.if-learned-options.false)) c.loop-conflict.invariant.logs
    (part-vars c.dive.new.engine.trail.vars c.args.engine.now.trail.vars c.args.options.now.forget (0 + c.loop-conflict.held.deletions) 1 0 c.loop-conflict.log c.conclude.new.log _ _ vars
    (c.in_ok-id.ensures.logs c.args.options.now.forget (0 + c.loop-conflict.held.deletions)))
    c.in_ok-push.ensures.deletions (c.in_err-forget_some.ensures.error c.args.engine.now.trail.vars)))
