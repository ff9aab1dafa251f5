use Rattle.std.proofs.Common.{ℕ, ◌≡◌, ◌≤◌, ◌<◌, ◌+◌, List, length, get_or, refl, sym, ap, subst, ◌∙◌, arith}
use Rattle.std.specs.Option.{option_copied}
use Rattle.std.proofs.lemmas.List.{length-map}
use Rattle.kn_logic.specs.Constraints.{IsWithin}
use Rattle.kn_opening.specs.Openings.{live_behind}
use Rattle.kn_solve.proofs.LiveLemmas.{next-of, next-fresh, next-loaded, next-within, all-loaded, none-some}
use Rattle.kn_solve.proofs.loading.engine_of.Goals as goal

pub unreachable-requires : goal.unreachable-requires
unreachable-requires c =
    let k = c.loop-id.id-index in
    let next = next-of c.args.log.now.state.given c.args.ids.now k (get_or c.args.ids.now k 0) c.requires.ids c.loop-id-test.true refl in
    none-some (sym (ap option_copied c.in_default.is) ∙ c.live.ensures.value ∙ next.live)

pub load-requires-clause-fresh : goal.load-requires-clause-fresh
load-requires-clause-fresh c =
    let k = c.loop-id.id-index in
    let id = get_or c.args.ids.now k 0 in
    next-fresh c.loop-id.engine.live c.args.log.now.state.given c.args.ids.now k id (next-of c.args.log.now.state.given c.args.ids.now k id c.requires.ids c.loop-id-test.true refl) c.loop-id.invariant.loaded

pub load-requires-clause-within : goal.load-requires-clause-within
load-requires-clause-within c =
    let k = c.loop-id.id-index in
    let id = get_or c.args.ids.now k 0 in
    let next = next-of c.args.log.now.state.given c.args.ids.now k id c.requires.ids c.loop-id-test.true refl in
    subst (λ n. IsWithin n c.in-Some.c.now) (sym (ap (λ t. t.vars) c.loop-id.invariant.trail))
    (next-within c.args.vars c.args.log.now.state.given c.args.ids.now k id c.in-Some.c.now next (sym c.live.ensures.value ∙ ap option_copied c.in-Some.is) c.requires.within)

pub loop-id-preserved : goal.loop-id-preserved
loop-id-preserved c =
    let k = c.loop-id.id-index in
    let id = get_or c.args.ids.now k 0 in
    let next = next-of c.args.log.now.state.given c.args.ids.now k id c.requires.ids c.loop-id-test.true refl in
    record {
      trail = c.in_ok-load.ensures.trail ∙ c.loop-id.invariant.trail;
      loaded = next-loaded c.loop-id.engine.live c.load.new.engine.live c.args.log.now.state.given c.args.ids.now k id c.in-Some.c.now next (sym c.live.ensures.value ∙ ap option_copied c.in-Some.is) c.loop-id.invariant.loaded c.in_ok-load.ensures.live;
    }

pub returns-clause-mirrors : goal.returns-clause-mirrors
returns-clause-mirrors c =
    let given = c.args.log.now.state.given in
    let end : length (live_behind 0 given) ≤ c.loop-id.id-index =
    (let n = ap (λ (z : List ℕ). length z) c.requires.ids in let m = length-map (live_behind 0 given) (λ q. q.id) in omega (arith, n, m, c.loop-id-test.false)) in
    all-loaded c.loop-id.engine.live given c.loop-id.id-index end c.loop-id.invariant.loaded
