use Rattle.std.proofs.Common.{◌≡◌, ◌<◌, length, sym, ◌∙◌, refl, subst, Some}
use Rattle.std.specs.List.{slice_get}
use Rattle.kn_watch.specs.Trails.{Trailed}
use Rattle.kn_learn.specs.declared.analysis.Walk.{Walk}
use Rattle.kn_learn.specs.Analyses.{Explores}
use Rattle.kn_learn.proofs.Exploring.{explores-none, explores-join, explores-failed, explores-explained}
use Rattle.kn_learn.proofs.Places.{at-length}
use Rattle.kn_learn.proofs.removing.+explaining.Goals as goal

pub attempt-returns-then-not-branch : goal.attempt-returns-then-not-branch
attempt-returns-then-not-branch g t c =
    let trail = c.args.engine.now.trail in
    let walk = c.explain.new.a.walk in
    let explores = subst (λ (w : Walk). Explores trail w walk) c.if-not-is_promising.ensures.walk c.in_ok-explain.ensures.explores in
    record {
      explores = explores-join trail c.args.a.now.walk walk _ explores
          (explores-failed trail walk _ c.args.place c.in_ok-set.ensures (explores.same c.args.place ∙ c.requires.unneeded) refl refl refl refl);
    }

pub attempt-returns : goal.attempt-returns
attempt-returns g t c =
    let trail = c.args.engine.now.trail in
    let walk = c.explain.new.a.walk in
    let explores = subst (λ (w : Walk). Explores trail w walk) c.if-not-is_promising.ensures.walk c.in_ok-explain.ensures.explores in
    record {
      explores = explores-join trail c.args.a.now.walk walk _ explores
          (explores-explained trail walk _ c.args.place c.in_ok-set-2.ensures (explores.same c.args.place ∙ c.requires.unneeded) (c.in_ok-explain.ensures.yes c.if-not-branch.false) refl refl c.in_ok-push.ensures.items refl);
    }

pub explain-returns-then-not-branch-clause-explores : goal.explain-returns-then-not-branch-clause-explores
explain-returns-then-not-branch-clause-explores g t c =
    explores-join c.args.engine.now.trail c.args.a.now.walk c.loop-lit.a.walk c.is_explained.new.a.walk c.loop-lit.invariant c.in_ok-is_explained.ensures.explores

pub explain-loop-lit-preserved : goal.explain-loop-lit-preserved
explain-loop-lit-preserved g t c =
    explores-join c.args.engine.now.trail c.args.a.now.walk c.loop-lit.a.walk c.is_explained.new.a.walk c.loop-lit.invariant c.in_ok-is_explained.ensures.explores

pub explain-returns-then-depth-eq0-clause-explores : goal.explain-returns-then-depth-eq0-clause-explores
explain-returns-then-depth-eq0-clause-explores g t c = explores-none c.args.engine.now.trail c.args.a.now.walk

pub explain-reason_at-requires : goal.explain-reason_at-requires
explain-reason_at-requires g t c =
    let (m, at, less) = c.requires.lower in
    subst (λ (x : Trailed). c.args.place < length x.made) (sym c.trail.ensures.value) (at-length c.args.engine.now.trail.made c.args.place m at)

pub explain-returns-in_default-clause-explores : goal.explain-returns-in_default-clause-explores
explain-returns-in_default-clause-explores g t c = explores-none c.args.engine.now.trail c.args.a.now.walk

pub explain-returns-in_default-lits_of-clause-explores : goal.explain-returns-in_default-lits_of-clause-explores
explain-returns-in_default-lits_of-clause-explores g t c = explores-none c.args.engine.now.trail c.args.a.now.walk

pub explain-loop-lit-init : goal.explain-loop-lit-init
explain-loop-lit-init g t c = explores-none c.args.engine.now.trail c.args.a.now.walk

pub explain-returns-clause-explores : goal.explain-returns-clause-explores
explain-returns-clause-explores g t c = c.loop-lit.invariant

pub explain-returns-clause-yes : goal.explain-returns-clause-yes
explain-returns-clause-yes g t c = λ h.
    let (m, at, less) = c.requires.lower in
    (m, c.in-Some.id, at, sym (c.reason_at.ensures m (subst (λ (x : Trailed). slice_get x.made c.args.place ≡ Some m) (sym c.trail.ensures.value) at)) ∙ c.in-Some.is, less)
