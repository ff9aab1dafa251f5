use Rattle.std.proofs.Common.{◌≡◌, ◌<◌, ℕ, Option, Some, length, ap, ◌∙◌, subst, arith}
use Rattle.std.specs.Prelude.{nat_eq}
use Rattle.indexmap.specs.IndexMap.{get}
use Rattle.kn_propagate.specs.declared.step.Step.TheVariants.{Closed, Conflict}
use Rattle.kn_propagate.specs.Engines.{Engined, IsConflict}
use Rattle.kn_propagate.specs.Chains.{Watching, seen_as, at_slot, held_bounded, held_watches}
use Rattle.kn_propagate.specs.Wholes.{live_of, IsWhole}
use Rattle.kn_propagate.proofs.Turning.{length-seen, seen_here}
use Rattle.kn_propagate.proofs.Handing.{engine_is}
use Rattle.kn_propagate.proofs.Engined.{live_same, forced_now, whole_closed, whole_conflict}
use Rattle.kn_propagate.proofs.engine.Engine.propagate.Goals as goal

pub invariant_of-self : goal.invariant_of-self
invariant_of-self g c =
    let b = held_bounded g.C.Watched.bounded g.K.Watched.bounded in
    let w = held_watches g.C.Watched.watches g.K.Watched.watches in
    let ws = seen_as b w c.self.inside.slots.items in
    let new = seen_as b w c.advance-stopped.new.slots.items in
    let find : ℕ → Option ℕ = get nat_eq c.self.inside.index in
    let e = c.advance-stopped.ensures in
    let k = c.in-Some.ensures.conflict in
    let lt : c.in-Some.owner < length new = omega (arith, k.0, length-seen b w c.advance-stopped.new.slots.items) in
    let id : (at_slot new c.in-Some.owner).id ≡ Some c.in-Some-id.id = ap (λ (x : Watching). x.id) (seen_here b w c.advance-stopped.new.slots.items c.in-Some.owner c.index.result.now k.0 c.index.ensures) ∙ c.in-Some-id.is in
    let whole : IsWhole c.advance-stopped.new.trail new c.advance-stopped.new.chains c.advance-stopped.new.visited (Some (Conflict c.in-Some-id.id)) c.advance-stopped.new.pending.items find = whole_conflict c.advance-stopped.new.trail ws new c.advance-stopped.new.chains c.advance-stopped.new.visited c.in-Some.owner c.in-Some-id.id c.advance-stopped.new.pending.items find c.self.invariant.index e.same e.tabled lt id k.1 in
    whole

pub invariant_of-self-in-None : goal.invariant_of-self-in-None
invariant_of-self-in-None g c =
    let b = held_bounded g.C.Watched.bounded g.K.Watched.bounded in
    let w = held_watches g.C.Watched.watches g.K.Watched.watches in
    let ws = seen_as b w c.self.inside.slots.items in
    let new = seen_as b w c.advance-stopped.new.slots.items in
    let find : ℕ → Option ℕ = get nat_eq c.self.inside.index in
    let e = c.advance-stopped.ensures in
    let whole : IsWhole c.advance-stopped.new.trail new c.advance-stopped.new.chains c.advance-stopped.new.visited (Some Closed) c.advance-stopped.new.pending.items find = whole_closed c.advance-stopped.new.trail ws new c.advance-stopped.new.chains c.advance-stopped.new.visited c.advance-stopped.new.pending.items find c.self.invariant.index e.same e.tabled c.in-None.ensures.all c.in-None.ensures.quiet in
    whole

pub returns-in-Some-id-clause-live : goal.returns-in-Some-id-clause-live
returns-in-Some-id-clause-live g c =
    let b = held_bounded g.C.Watched.bounded g.K.Watched.bounded in
    let w = held_watches g.C.Watched.watches g.K.Watched.watches in
    let ws = seen_as b w c.self.inside.slots.items in
    let new = seen_as b w c.advance-stopped.new.slots.items in
    let find : ℕ → Option ℕ = get nat_eq c.self.inside.index in
    let e = c.advance-stopped.ensures in
    live_same ws new e.same ∙ ap (λ (x : Engined). x.live) c.self.view_is

pub returns-in-Some-id-clause-forced : goal.returns-in-Some-id-clause-forced
returns-in-Some-id-clause-forced g c p le lt =
    let b = held_bounded g.C.Watched.bounded g.K.Watched.bounded in
    let w = held_watches g.C.Watched.watches g.K.Watched.watches in
    let ws = seen_as b w c.self.inside.slots.items in
    let new = seen_as b w c.advance-stopped.new.slots.items in
    let find : ℕ → Option ℕ = get nat_eq c.self.inside.index in
    let e = c.advance-stopped.ensures in
    forced_now c.self.inside.trail c.advance-stopped.new.trail c.args.self.now c.self.inside.last ws new find c.self.invariant.index e.same e.reasons c.self.view_is p le

pub returns-in-Some-id-clause-kept : goal.returns-in-Some-id-clause-kept
returns-in-Some-id-clause-kept g c =
    let b = held_bounded g.C.Watched.bounded g.K.Watched.bounded in
    let w = held_watches g.C.Watched.watches g.K.Watched.watches in
    let ws = seen_as b w c.self.inside.slots.items in
    let new = seen_as b w c.advance-stopped.new.slots.items in
    let find : ℕ → Option ℕ = get nat_eq c.self.inside.index in
    let e = c.advance-stopped.ensures in
    let k = c.in-Some.ensures.conflict in
    let lt : c.in-Some.owner < length new = omega (arith, k.0, length-seen b w c.advance-stopped.new.slots.items) in
    let id : (at_slot new c.in-Some.owner).id ≡ Some c.in-Some-id.id = ap (λ (x : Watching). x.id) (seen_here b w c.advance-stopped.new.slots.items c.in-Some.owner c.index.result.now k.0 c.index.ensures) ∙ c.in-Some-id.is in
    let whole : IsWhole c.advance-stopped.new.trail new c.advance-stopped.new.chains c.advance-stopped.new.visited (Some (Conflict c.in-Some-id.id)) c.advance-stopped.new.pending.items find = whole_conflict c.advance-stopped.new.trail ws new c.advance-stopped.new.chains c.advance-stopped.new.visited c.in-Some.owner c.in-Some-id.id c.advance-stopped.new.pending.items find c.self.invariant.index e.same e.tabled lt id k.1 in
    engine_is c.advance-stopped.new.trail new c.advance-stopped.new.chains c.advance-stopped.new.visited _ c.advance-stopped.new.pending.items find whole

pub returns-in-None-clause-live : goal.returns-in-None-clause-live
returns-in-None-clause-live g c =
    let b = held_bounded g.C.Watched.bounded g.K.Watched.bounded in
    let w = held_watches g.C.Watched.watches g.K.Watched.watches in
    let ws = seen_as b w c.self.inside.slots.items in
    let new = seen_as b w c.advance-stopped.new.slots.items in
    let find : ℕ → Option ℕ = get nat_eq c.self.inside.index in
    let e = c.advance-stopped.ensures in
    live_same ws new e.same ∙ ap (λ (x : Engined). x.live) c.self.view_is

pub returns-in-None-clause-forced : goal.returns-in-None-clause-forced
returns-in-None-clause-forced g c p le lt =
    let b = held_bounded g.C.Watched.bounded g.K.Watched.bounded in
    let w = held_watches g.C.Watched.watches g.K.Watched.watches in
    let ws = seen_as b w c.self.inside.slots.items in
    let new = seen_as b w c.advance-stopped.new.slots.items in
    let find : ℕ → Option ℕ = get nat_eq c.self.inside.index in
    let e = c.advance-stopped.ensures in
    forced_now c.self.inside.trail c.advance-stopped.new.trail c.args.self.now c.self.inside.last ws new find c.self.invariant.index e.same e.reasons c.self.view_is p le

pub returns-in-None-clause-kept : goal.returns-in-None-clause-kept
returns-in-None-clause-kept g c =
    let b = held_bounded g.C.Watched.bounded g.K.Watched.bounded in
    let w = held_watches g.C.Watched.watches g.K.Watched.watches in
    let ws = seen_as b w c.self.inside.slots.items in
    let new = seen_as b w c.advance-stopped.new.slots.items in
    let find : ℕ → Option ℕ = get nat_eq c.self.inside.index in
    let e = c.advance-stopped.ensures in
    let whole : IsWhole c.advance-stopped.new.trail new c.advance-stopped.new.chains c.advance-stopped.new.visited (Some Closed) c.advance-stopped.new.pending.items find = whole_closed c.advance-stopped.new.trail ws new c.advance-stopped.new.chains c.advance-stopped.new.visited c.advance-stopped.new.pending.items find c.self.invariant.index e.same e.tabled c.in-None.ensures.all c.in-None.ensures.quiet in
    engine_is c.advance-stopped.new.trail new c.advance-stopped.new.chains c.advance-stopped.new.visited _ c.advance-stopped.new.pending.items find whole

pub returns-in-Some-id-clause-conflict : goal.returns-in-Some-id-clause-conflict
returns-in-Some-id-clause-conflict g c id2 h =
    let b = held_bounded g.C.Watched.bounded g.K.Watched.bounded in
    let w = held_watches g.C.Watched.watches g.K.Watched.watches in
    let ws = seen_as b w c.self.inside.slots.items in
    let new = seen_as b w c.advance-stopped.new.slots.items in
    let find : ℕ → Option ℕ = get nat_eq c.self.inside.index in
    let e = c.advance-stopped.ensures in
    let k = c.in-Some.ensures.conflict in
    let lt : c.in-Some.owner < length new = omega (arith, k.0, length-seen b w c.advance-stopped.new.slots.items) in
    let id : (at_slot new c.in-Some.owner).id ≡ Some c.in-Some-id.id = ap (λ (x : Watching). x.id) (seen_here b w c.advance-stopped.new.slots.items c.in-Some.owner c.index.result.now k.0 c.index.ensures) ∙ c.in-Some-id.is in
    let whole : IsWhole c.advance-stopped.new.trail new c.advance-stopped.new.chains c.advance-stopped.new.visited (Some (Conflict c.in-Some-id.id)) c.advance-stopped.new.pending.items find = whole_conflict c.advance-stopped.new.trail ws new c.advance-stopped.new.chains c.advance-stopped.new.visited c.in-Some.owner c.in-Some-id.id c.advance-stopped.new.pending.items find c.self.invariant.index e.same e.tabled lt id k.1 in
    let s = (engine_is c.advance-stopped.new.trail new c.advance-stopped.new.chains c.advance-stopped.new.visited _ c.advance-stopped.new.pending.items find whole).stepped in
    let same : c.in-Some-id.id ≡ id2 = cc in
    subst (λ (i : ℕ). IsConflict (record { trail = c.advance-stopped.new.trail; live = live_of new; last = Some (Conflict c.in-Some-id.id) }) i) same s

pub returns-in-None-clause-closed : goal.returns-in-None-clause-closed
returns-in-None-clause-closed g c h =
    let b = held_bounded g.C.Watched.bounded g.K.Watched.bounded in
    let w = held_watches g.C.Watched.watches g.K.Watched.watches in
    let ws = seen_as b w c.self.inside.slots.items in
    let new = seen_as b w c.advance-stopped.new.slots.items in
    let find : ℕ → Option ℕ = get nat_eq c.self.inside.index in
    let e = c.advance-stopped.ensures in
    let whole : IsWhole c.advance-stopped.new.trail new c.advance-stopped.new.chains c.advance-stopped.new.visited (Some Closed) c.advance-stopped.new.pending.items find = whole_closed c.advance-stopped.new.trail ws new c.advance-stopped.new.chains c.advance-stopped.new.visited c.advance-stopped.new.pending.items find c.self.invariant.index e.same e.tabled c.in-None.ensures.all c.in-None.ensures.quiet in
    (engine_is c.advance-stopped.new.trail new c.advance-stopped.new.chains c.advance-stopped.new.visited _ c.advance-stopped.new.pending.items find whole).stepped
