use Rattle.std.proofs.Common.{refl}
use Rattle.std.proofs.lemmas.Result.{on_ok_weaker}
use Rattle.kn_learn.proofs.Needing.{walking-kept}
use Rattle.kn_learn.proofs.seeing.keep.Goals as goal

pub returns-clause-walking : goal.returns-clause-walking
returns-clause-walking c = on_ok_weaker c.set.result
    (λ marked live p left h. walking-kept c.args.trail.now live p left c.args.walk.now _ c.args.place marked c.in_ok-push.ensures.items refl refl refl c.requires.unseen c.requires.lower h) c.set.ensures
