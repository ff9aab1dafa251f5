use Rattle.std.proofs.Common.{sym, subst}
use Rattle.std.proofs.lemmas.Result.{on_ok_weaker}
use Rattle.kn_watch.specs.Trails.{Trailed}
use Rattle.kn_learn.specs.Analyses.{IsWalking}
use Rattle.kn_learn.proofs.walking.see_reasons.Goals as goal

pub returns-clause-walking : goal.returns-clause-walking
returns-clause-walking g c =
    let live = c.args.engine.now.live in
    let same = c.trail.ensures.value in
    on_ok_weaker c.see_all.result
    (λ h p left w le behind. subst (λ (t : Trailed). IsWalking t live p left c.see_all.new.a.walk) same
    (h live p left (subst (λ (t : Trailed). IsWalking t live p left c.args.a.now.walk) (sym same) w) le behind))
    c.see_all.ensures.walking
