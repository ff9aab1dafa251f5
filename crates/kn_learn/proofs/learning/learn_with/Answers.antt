use Rattle.std.proofs.Common.{ℕ, List, sym, subst}
use Rattle.kn_learn.specs.Analyses.{IsWalking}
use Rattle.kn_learn.proofs.learning.learn_with.Goals as goal

pub sweep-requires-clause-walking : goal.sweep-requires-clause-walking
sweep-requires-clause-walking g c =
    let engine = c.args.engine.now in
    let old = c.walk.new.a.walk in
    let new = c.remove.new.a.walk in
    let explores = c.in_ok-remove.ensures.explores in
    subst (λ (p : ℕ). IsWalking engine.trail engine.live p new.explained.items new) (sym explores.lowest)
    (explores.walking engine.live old.lowest (subst (λ (ps : List ℕ). IsWalking engine.trail engine.live old.lowest ps old) (sym c.in_ok-walk.ensures.none) c.in_ok-walk.ensures.walking))
