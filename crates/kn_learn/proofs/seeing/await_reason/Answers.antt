use Rattle.std.proofs.Common.{refl}
use Rattle.std.proofs.lemmas.Result.{on_ok_weaker}
use Rattle.kn_learn.proofs.Needing.{walking-pending}
use Rattle.kn_learn.proofs.seeing.await_reason.Goals as goal

pub returns-clause-walking : goal.returns-clause-walking
returns-clause-walking c = on_ok_weaker c.set.result
    (λ marked t live p left h behind. walking-pending t live p left c.args.walk.now _ c.args.place marked refl refl refl refl c.requires h behind) c.set.ensures
