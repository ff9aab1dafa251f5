use Rattle.std.proofs.Common.{refl}
use Rattle.std.proofs.lemmas.Result.{on_ok_weaker}
use Rattle.kn_learn.proofs.Needing.{walking-awaits}
use Rattle.kn_learn.proofs.seeing.await_place.Goals as goal

pub returns-clause-walking : goal.returns-clause-walking
returns-clause-walking c = on_ok_weaker c.set.result
    (λ marked live p left h le. walking-awaits c.args.trail.now live p left c.args.walk.now _ c.args.place marked refl refl refl c.min-walk.ensures c.requires.top le h) c.set.ensures
