use Rattle.std.proofs.Common.{◌∙◌, refl}
use Rattle.std.proofs.lemmas.Result.{on_ok_weaker}
use Rattle.kn_learn.proofs.Exploring.{explores-join, explores-pending}
use Rattle.kn_learn.proofs.removing.remove_one.Goals as goal

pub returns : goal.returns
returns g c =
    let trail = c.args.engine.now.trail in
    let walk = c.explain.new.a.walk in
    let explores = c.in_ok-explain.ensures.explores in
    record {
      explores = on_ok_weaker c.set.result
          (λ marked. explores-join trail c.args.a.now.walk walk _ explores
          (explores-pending trail walk _ c.args.place marked (explores.same c.args.place ∙ c.requires.needed) (c.in_ok-explain.ensures.yes c.if-not-branch.false) refl refl c.in_ok-push.ensures.items refl))
          c.set.ensures;
    }
