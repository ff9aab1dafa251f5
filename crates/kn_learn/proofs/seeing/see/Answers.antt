use Rattle.std.proofs.lemmas.Result.{on_ok_weaker}
use Rattle.kn_learn.proofs.seeing.see.Goals as goal

pub returns-in-Explained-clause-walking : goal.returns-in-Explained-clause-walking
returns-in-Explained-clause-walking c = on_ok_weaker c.await_reason.result (λ h live p left w le behind. h c.args.trail.now live p left w behind) c.await_reason.ensures.walking

pub returns-in-Unseen-clause-walking : goal.returns-in-Unseen-clause-walking
returns-in-Unseen-clause-walking c = on_ok_weaker c.meet.result (λ h live p left w le behind. h live p left w le) c.meet.ensures.walking
