use Rattle.std.proofs.Common.{◌≡◌, ◌+◌, ◌≤◌, ◌<◌, List, sym, subst, arith}
use Rattle.std.proofs.lemmas.Bool.{ltb-true}
use Rattle.kn_logic.specs.Literals.{Literal}
use Rattle.kn_logic.specs.Constraints.{Bounded}
use Rattle.kn_logic.specs.Propagation.{open_places, IsShort}
use Rattle.kn_watch.specs.Trails.{Trailed, literals, below}
use Rattle.kn_watch.specs.Watches.{listed}
use Rattle.kn_propagate.proofs.Looking.{quiet_look}
use Rattle.kn_propagate.proofs.Placing.{conflict_few, forcing_few}
use Rattle.kn_propagate.proofs.tests.may_add.Goals as goal

-- where more literals than the bound are not false, nothing is forced
quiet : (trail : List Literal) (c : Bounded) → c.bound < open_places trail (listed c) → IsShort trail c → ⊥
quiet trail c lt = quiet_look trail c (λ k. omega (arith, lt, conflict_few trail c k), λ f. omega (arith, lt, forcing_few trail c f))

pub returns-else-level-eq0-clause-waits : goal.returns-else-level-eq0-clause-waits
returns-else-level-eq0-clause-waits g c t k kl =
    let same : c.trail-trail.result.now ≡ c.args.engine.now.trail = c.trail-trail.ensures.value in
    let le = c.count_open.ensures k (subst (λ (x : Trailed). k < x.level) (sym same) kl) in
    let lits : c.lits-else-level-eq0.result.now ≡ listed (g.W.Watched.bounded c.args.w.now) = c.lits-else-level-eq0.ensures in
    let open_ : c.count_open.result ≤ open_places (literals (below (k + 1) c.args.engine.now.trail.made)) (listed (g.W.Watched.bounded c.args.w.now)) =
    subst (λ (x : List Literal). c.count_open.result ≤ open_places (literals (below (k + 1) c.args.engine.now.trail.made)) x) lits (subst (λ (x : Trailed). c.count_open.result ≤ open_places (literals (below (k + 1) x.made)) c.lits-else-level-eq0.result.now) same le) in
    quiet (literals (below (k + 1) c.args.engine.now.trail.made)) (g.W.Watched.bounded c.args.w.now) (omega (arith, ltb-true c.bound.result c.count_open.result t, open_, c.bound.ensures))
