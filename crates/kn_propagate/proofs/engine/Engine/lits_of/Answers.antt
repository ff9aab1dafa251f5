use Rattle.std.proofs.Common.{◌≡◌, ℕ, ◌<◌, List, Option, Some, None, length, sym, ap, ◌∙◌, subst, arith}
use Rattle.std.specs.Prelude.{nat_eq, option_map}
use Rattle.std.proofs.lemmas.Grind.{common_steps}
use Rattle.indexmap.specs.IndexMap.{get}
use Rattle.kn_logic.specs.Literals.{Literal}
use Rattle.kn_logic.specs.Constraints.{Bounded}
use Rattle.kn_watch.specs.Watches.{listed}
use Rattle.kn_propagate.specs.Engines.{Engined, live_in, IsEngine}
use Rattle.kn_propagate.specs.Chains.{Watching, seen_as, held_bounded, held_watches}
use Rattle.kn_propagate.proofs.Turning.{length-seen, seen_here}
use Rattle.kn_propagate.proofs.Handing.{engine_is, distinct, live_is, none_is}
use Rattle.kn_propagate.proofs.engine.Engine.lits_of.Goals as goal

pub index-requires : goal.index-requires
index-requires g c =
    let f : get nat_eq c.self.inside.index c.args.id ≡ Some c.in-Some.slot.now = sym c.in-Some.ensures.value in
    let o = c.self.invariant.index.found c.args.id c.in-Some.slot.now f in
    let lt : c.in-Some.slot.now < length c.self.inside.slots.items = omega (arith, o.0, length-seen (held_bounded g.C.Watched.bounded g.K.Watched.bounded) (held_watches g.C.Watched.watches g.K.Watched.watches) c.self.inside.slots.items) in
    grind (arith, common_steps)

pub returns-in-Some-clause-value : goal.returns-in-Some-clause-value
returns-in-Some-clause-value g c =
    let b = held_bounded g.C.Watched.bounded g.K.Watched.bounded in
    let w = held_watches g.C.Watched.watches g.K.Watched.watches in
    let ws = seen_as b w c.self.inside.slots.items in
    let slot : ℕ = c.in-Some.slot.now in
    let f : get nat_eq c.self.inside.index c.args.id ≡ Some slot = sym c.in-Some.ensures.value in
    let o = c.self.invariant.index.found c.args.id slot f in
    let lt : slot < length c.self.inside.slots.items = omega (arith, o.0, length-seen b w c.self.inside.slots.items) in
    let here = seen_here b w c.self.inside.slots.items slot c.index.result.now lt c.index.ensures in
    let live : live_in c.args.self.now.live c.args.id ≡ Some (b c.index.result.now.watch) =
    ap (λ (x : Engined). live_in x.live c.args.id) (sym c.self.view_is) ∙ live_is ws slot c.args.id (distinct ws (get nat_eq c.self.inside.index) c.self.invariant.index) o.0 o.1 ∙ ap (λ (x : Watching). Some x.c) here in
    ap (λ (x : List Literal). Some x) c.lits.ensures ∙ sym (ap (λ (x : Option Bounded). option_map listed x) live)

pub returns-in-Some-clause-kept : goal.returns-in-Some-clause-kept
returns-in-Some-clause-kept g c = subst IsEngine c.self.view_is (engine_is c.self.inside.trail _ c.self.inside.chains c.self.inside.visited c.self.inside.last c.self.inside.pending.items _ c.self.invariant)

pub returns-in-None-clause-value : goal.returns-in-None-clause-value
returns-in-None-clause-value g c =
    let ws = seen_as (held_bounded g.C.Watched.bounded g.K.Watched.bounded) (held_watches g.C.Watched.watches g.K.Watched.watches) c.self.inside.slots.items in
    let f : get nat_eq c.self.inside.index c.args.id ≡ None = sym c.in-None.ensures.value in
    let live : live_in c.args.self.now.live c.args.id ≡ None =
    ap (λ (x : Engined). live_in x.live c.args.id) (sym c.self.view_is) ∙ none_is ws c.args.id (λ slot lt e. (let k = c.self.invariant.index.kept c.args.id slot lt e in absurd cc)) in
    sym (ap (λ (x : Option Bounded). option_map listed x) live)

pub returns-in-None-clause-kept : goal.returns-in-None-clause-kept
returns-in-None-clause-kept g c = subst IsEngine c.self.view_is (engine_is c.self.inside.trail _ c.self.inside.chains c.self.inside.visited c.self.inside.last c.self.inside.pending.items _ c.self.invariant)
