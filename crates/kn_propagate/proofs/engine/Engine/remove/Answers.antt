use Rattle.std.proofs.Common.{◌≡◌, ◌<◌, ◌+◌, ◌*◌, ℕ, Option, Some, None, length, refl, sym, ap, ◌∙◌, subst, arith}
use Rattle.std.specs.Prelude.{nat_eq, slice_set}
use Rattle.std.specs.Option.{is_some}
use Rattle.std.proofs.lemmas.Grind.{common_steps}
use Rattle.indexmap.specs.IndexMap.{get}
use Rattle.kn_logic.specs.Constraints.{Bounded, IsWithin}
use Rattle.kn_watch.specs.Trails.{Trailed}
use Rattle.kn_propagate.specs.declared.step.Step.{Step}
use Rattle.kn_propagate.specs.declared.slot.Held.TheVariants.{Free}
use Rattle.kn_propagate.specs.Engines.{Engined, IsNoReason, live_in, removed, closed_only}
use Rattle.kn_propagate.specs.Chains.{vacancy, seen_as, at_slot, held_bounded, held_watches}
use Rattle.kn_propagate.specs.Wholes.{live_of, IsWhole}
use Rattle.kn_propagate.proofs.Turning.{length-seen, seen_set}
use Rattle.kn_propagate.proofs.Handing.{engine_is, distinct, live_is, none_is}
use Rattle.kn_propagate.proofs.Engined.{whole_room}
use Rattle.kn_propagate.proofs.Removing.{removed_none, removed_live, whole_removed}
use Rattle.kn_propagate.proofs.engine.Engine.remove.Goals as goal

pub invariant_of-self : goal.invariant_of-self
invariant_of-self g c =
    let b = held_bounded g.C.Watched.bounded g.K.Watched.bounded in
    let w = held_watches g.C.Watched.watches g.K.Watched.watches in
    let t = c.self.inside.trail in
    let ws = seen_as b w c.self.inside.slots.items in
    let find : ℕ → Option ℕ = get nat_eq c.self.inside.index in
    let found : ℕ → Option ℕ = get nat_eq c.swap_remove.new.self in
    let last = c.self.inside.last in
    let visited = c.self.inside.visited in
    let inv = c.self.invariant in
    let none : find c.args.id ≡ None = sym c.in_default.ensures.value in
    let absent : live_in c.args.self.now.live c.args.id ≡ None = ap (λ (x : Engined). live_in x.live c.args.id) (sym c.self.view_is) ∙ none_is ws c.args.id (λ slot lt e. (let k = inv.index.kept c.args.id slot lt e in absurd cc)) in
    whole_room t ws ws c.self.inside.chains c.self.inside.chains visited last c.self.inside.pending.items c.self.inside.pending.items find found inv refl refl refl (λ q. grind (arith, common_steps, c.in_default.ensures.unchanged))

pub returns-in_default-clause-found : goal.returns-in_default-clause-found
returns-in_default-clause-found g c =
    let b = held_bounded g.C.Watched.bounded g.K.Watched.bounded in
    let w = held_watches g.C.Watched.watches g.K.Watched.watches in
    let t = c.self.inside.trail in
    let ws = seen_as b w c.self.inside.slots.items in
    let find : ℕ → Option ℕ = get nat_eq c.self.inside.index in
    let found : ℕ → Option ℕ = get nat_eq c.swap_remove.new.self in
    let last = c.self.inside.last in
    let visited = c.self.inside.visited in
    let inv = c.self.invariant in
    let none : find c.args.id ≡ None = sym c.in_default.ensures.value in
    let absent : live_in c.args.self.now.live c.args.id ≡ None = ap (λ (x : Engined). live_in x.live c.args.id) (sym c.self.view_is) ∙ none_is ws c.args.id (λ slot lt e. (let k = inv.index.kept c.args.id slot lt e in absurd cc)) in
    sym (ap (λ (x : Option Bounded). is_some x) absent)

pub returns-in_default-clause-live : goal.returns-in_default-clause-live
returns-in_default-clause-live g c =
    let b = held_bounded g.C.Watched.bounded g.K.Watched.bounded in
    let w = held_watches g.C.Watched.watches g.K.Watched.watches in
    let t = c.self.inside.trail in
    let ws = seen_as b w c.self.inside.slots.items in
    let find : ℕ → Option ℕ = get nat_eq c.self.inside.index in
    let found : ℕ → Option ℕ = get nat_eq c.swap_remove.new.self in
    let last = c.self.inside.last in
    let visited = c.self.inside.visited in
    let inv = c.self.invariant in
    let none : find c.args.id ≡ None = sym c.in_default.ensures.value in
    let absent : live_in c.args.self.now.live c.args.id ≡ None = ap (λ (x : Engined). live_in x.live c.args.id) (sym c.self.view_is) ∙ none_is ws c.args.id (λ slot lt e. (let k = inv.index.kept c.args.id slot lt e in absurd cc)) in
    ap (λ (x : Engined). x.live) c.self.view_is ∙ sym (removed_none c.args.self.now.live c.args.id absent)

pub returns-in_default-clause-kept : goal.returns-in_default-clause-kept
returns-in_default-clause-kept g c =
    let b = held_bounded g.C.Watched.bounded g.K.Watched.bounded in
    let w = held_watches g.C.Watched.watches g.K.Watched.watches in
    let t = c.self.inside.trail in
    let ws = seen_as b w c.self.inside.slots.items in
    let find : ℕ → Option ℕ = get nat_eq c.self.inside.index in
    let found : ℕ → Option ℕ = get nat_eq c.swap_remove.new.self in
    let last = c.self.inside.last in
    let visited = c.self.inside.visited in
    let inv = c.self.invariant in
    let none : find c.args.id ≡ None = sym c.in_default.ensures.value in
    let absent : live_in c.args.self.now.live c.args.id ≡ None = ap (λ (x : Engined). live_in x.live c.args.id) (sym c.self.view_is) ∙ none_is ws c.args.id (λ slot lt e. (let k = inv.index.kept c.args.id slot lt e in absurd cc)) in
    engine_is t ws c.self.inside.chains visited last c.self.inside.pending.items found (whole_room t ws ws c.self.inside.chains c.self.inside.chains visited last c.self.inside.pending.items c.self.inside.pending.items find found inv refl refl refl (λ q. grind (arith, common_steps, c.in_default.ensures.unchanged)))

pub detach-requires-clause-owner : goal.detach-requires-clause-owner
detach-requires-clause-owner g c =
    let b = held_bounded g.C.Watched.bounded g.K.Watched.bounded in
    let w = held_watches g.C.Watched.watches g.K.Watched.watches in
    let t = c.self.inside.trail in
    let ws = seen_as b w c.self.inside.slots.items in
    let find : ℕ → Option ℕ = get nat_eq c.self.inside.index in
    let found : ℕ → Option ℕ = get nat_eq c.swap_remove.new.self in
    let last = c.self.inside.last in
    let visited = c.self.inside.visited in
    let inv = c.self.invariant in
    let owner : ℕ = c.in-Some.owner in
    let at : find c.args.id ≡ Some owner = sym c.in-Some.ensures.value in
    let o = inv.index.found c.args.id owner at in
    o.0

pub detach-requires-clause-within : goal.detach-requires-clause-within
detach-requires-clause-within g c slot lt =
    subst (λ (n : ℕ). IsWithin n (at_slot (seen_as (held_bounded g.C.Watched.bounded g.K.Watched.bounded) (held_watches g.C.Watched.watches g.K.Watched.watches) c.self.inside.slots.items) slot).c) (sym c.vars.ensures.vars) (c.self.invariant.tabled.kept slot lt).within

pub index_mut-requires : goal.index_mut-requires
index_mut-requires g c =
    let b = held_bounded g.C.Watched.bounded g.K.Watched.bounded in
    let w = held_watches g.C.Watched.watches g.K.Watched.watches in
    let t = c.self.inside.trail in
    let ws = seen_as b w c.self.inside.slots.items in
    let find : ℕ → Option ℕ = get nat_eq c.self.inside.index in
    let found : ℕ → Option ℕ = get nat_eq c.swap_remove.new.self in
    let last = c.self.inside.last in
    let visited = c.self.inside.visited in
    let inv = c.self.invariant in
    let owner : ℕ = c.in-Some.owner in
    let at : find c.args.id ≡ Some owner = sym c.in-Some.ensures.value in
    let o = inv.index.found c.args.id owner at in
    let lt : owner < length c.self.inside.slots.items = omega (arith, o.0, length-seen b w c.self.inside.slots.items) in
    grind (arith, common_steps)

pub overflow_add-self : goal.overflow_add-self
overflow_add-self g c =
    let b = held_bounded g.C.Watched.bounded g.K.Watched.bounded in
    let w = held_watches g.C.Watched.watches g.K.Watched.watches in
    let t = c.self.inside.trail in
    let ws = seen_as b w c.self.inside.slots.items in
    let find : ℕ → Option ℕ = get nat_eq c.self.inside.index in
    let found : ℕ → Option ℕ = get nat_eq c.swap_remove.new.self in
    let last = c.self.inside.last in
    let visited = c.self.inside.visited in
    let inv = c.self.invariant in
    let owner : ℕ = c.in-Some.owner in
    let at : find c.args.id ≡ Some owner = sym c.in-Some.ensures.value in
    let o = inv.index.found c.args.id owner at in
    let few = inv.tabled.few in
    grind (arith, common_steps, o.0, few)

pub invariant_of-self-2 : goal.invariant_of-self-2
invariant_of-self-2 g c =
    let b = held_bounded g.C.Watched.bounded g.K.Watched.bounded in
    let w = held_watches g.C.Watched.watches g.K.Watched.watches in
    let t = c.self.inside.trail in
    let ws = seen_as b w c.self.inside.slots.items in
    let find : ℕ → Option ℕ = get nat_eq c.self.inside.index in
    let found : ℕ → Option ℕ = get nat_eq c.swap_remove.new.self in
    let last = c.self.inside.last in
    let visited = c.self.inside.visited in
    let inv = c.self.invariant in
    let owner : ℕ = c.in-Some.owner in
    let at : find c.args.id ≡ Some owner = sym c.in-Some.ensures.value in
    let o = inv.index.found c.args.id owner at in
    let new = seen_as b w (slice_set c.self.inside.slots.items owner (record { id = None; watch = Free c.self.inside.free })) in
    let is : new ≡ slice_set ws owner vacancy = seen_set b w c.self.inside.slots.items owner (record { id = None; watch = Free c.self.inside.free }) in
    let free : IsNoReason t.made c.args.id = subst (λ (x : Trailed). IsNoReason x.made c.args.id) (sym (ap (λ (x : Engined). x.trail) c.self.view_is)) c.requires.free in
    let sized : length c.detach.new.chains.heads ≡ 2 * t.vars + 3 = c.detach.ensures.sized ∙ ap (λ (n : ℕ). 2 * n + 3) c.vars.ensures.vars in
    let whole : IsWhole t new c.detach.new.chains visited (closed_only last) c.self.inside.pending.items found = whole_removed t ws new owner c.args.id c.self.inside.chains c.detach.new.chains visited last c.self.inside.pending.items find found inv at free is (λ q. c.in-Some.ensures.updates.0 q) sized c.detach.ensures.still c.detach.ensures.spare in
    let kept : IsWhole t new c.detach.new.chains visited c.closed_only-self-inside.result c.self.inside.pending.items found = subst (λ (x : Option Step). IsWhole t new c.detach.new.chains visited x c.self.inside.pending.items found) (sym c.closed_only-self-inside.ensures) whole in
    kept

pub returns-clause-found : goal.returns-clause-found
returns-clause-found g c =
    let b = held_bounded g.C.Watched.bounded g.K.Watched.bounded in
    let w = held_watches g.C.Watched.watches g.K.Watched.watches in
    let t = c.self.inside.trail in
    let ws = seen_as b w c.self.inside.slots.items in
    let find : ℕ → Option ℕ = get nat_eq c.self.inside.index in
    let found : ℕ → Option ℕ = get nat_eq c.swap_remove.new.self in
    let last = c.self.inside.last in
    let visited = c.self.inside.visited in
    let inv = c.self.invariant in
    let owner : ℕ = c.in-Some.owner in
    let at : find c.args.id ≡ Some owner = sym c.in-Some.ensures.value in
    let o = inv.index.found c.args.id owner at in
    let live : live_in c.args.self.now.live c.args.id ≡ Some (at_slot ws owner).c = ap (λ (x : Engined). live_in x.live c.args.id) (sym c.self.view_is) ∙ live_is ws owner c.args.id (distinct ws find inv.index) o.0 o.1 in
    sym (ap (λ (x : Option Bounded). is_some x) live)

pub returns-clause-live : goal.returns-clause-live
returns-clause-live g c =
    let b = held_bounded g.C.Watched.bounded g.K.Watched.bounded in
    let w = held_watches g.C.Watched.watches g.K.Watched.watches in
    let t = c.self.inside.trail in
    let ws = seen_as b w c.self.inside.slots.items in
    let find : ℕ → Option ℕ = get nat_eq c.self.inside.index in
    let found : ℕ → Option ℕ = get nat_eq c.swap_remove.new.self in
    let last = c.self.inside.last in
    let visited = c.self.inside.visited in
    let inv = c.self.invariant in
    let owner : ℕ = c.in-Some.owner in
    let at : find c.args.id ≡ Some owner = sym c.in-Some.ensures.value in
    let o = inv.index.found c.args.id owner at in
    let is = seen_set b w c.self.inside.slots.items owner (record { id = None; watch = Free c.self.inside.free }) in
    ap live_of is ∙ removed_live ws owner c.args.id o.0 o.1 (λ x xl e. distinct ws find inv.index x owner c.args.id xl o.0 e o.1) ∙ ap (λ (x : Engined). removed c.args.id x.live) c.self.view_is

pub returns-clause-kept : goal.returns-clause-kept
returns-clause-kept g c =
    let b = held_bounded g.C.Watched.bounded g.K.Watched.bounded in
    let w = held_watches g.C.Watched.watches g.K.Watched.watches in
    let t = c.self.inside.trail in
    let ws = seen_as b w c.self.inside.slots.items in
    let find : ℕ → Option ℕ = get nat_eq c.self.inside.index in
    let found : ℕ → Option ℕ = get nat_eq c.swap_remove.new.self in
    let last = c.self.inside.last in
    let visited = c.self.inside.visited in
    let inv = c.self.invariant in
    let owner : ℕ = c.in-Some.owner in
    let at : find c.args.id ≡ Some owner = sym c.in-Some.ensures.value in
    let o = inv.index.found c.args.id owner at in
    let new = seen_as b w (slice_set c.self.inside.slots.items owner (record { id = None; watch = Free c.self.inside.free })) in
    let is : new ≡ slice_set ws owner vacancy = seen_set b w c.self.inside.slots.items owner (record { id = None; watch = Free c.self.inside.free }) in
    let free : IsNoReason t.made c.args.id = subst (λ (x : Trailed). IsNoReason x.made c.args.id) (sym (ap (λ (x : Engined). x.trail) c.self.view_is)) c.requires.free in
    let sized : length c.detach.new.chains.heads ≡ 2 * t.vars + 3 = c.detach.ensures.sized ∙ ap (λ (n : ℕ). 2 * n + 3) c.vars.ensures.vars in
    let whole : IsWhole t new c.detach.new.chains visited (closed_only last) c.self.inside.pending.items found = whole_removed t ws new owner c.args.id c.self.inside.chains c.detach.new.chains visited last c.self.inside.pending.items find found inv at free is (λ q. c.in-Some.ensures.updates.0 q) sized c.detach.ensures.still c.detach.ensures.spare in
    let kept : IsWhole t new c.detach.new.chains visited c.closed_only-self-inside.result c.self.inside.pending.items found = subst (λ (x : Option Step). IsWhole t new c.detach.new.chains visited x c.self.inside.pending.items found) (sym c.closed_only-self-inside.ensures) whole in
    engine_is t new c.detach.new.chains visited c.closed_only-self-inside.result c.self.inside.pending.items found kept
