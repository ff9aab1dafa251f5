use Rattle.std.proofs.Common.{◌≡◌, ◌<◌, ◌+◌, ℕ, List, Option, None, refl, ap, ◌∙◌, subst, arith}
use Rattle.std.specs.Prelude.{nat_eq, OnErr, Result, Ok, Err}
use Rattle.kn_propagate.specs.declared.step.Step.{Step}
use Rattle.std.proofs.lemmas.Grind.{common_steps}
use Rattle.indexmap.specs.IndexMap.{get}
use Rattle.kn_logic.specs.Propagation.{IsShort}
use Rattle.kn_watch.specs.Trails.{Trailed, literals, below}
use Rattle.kn_propagate.specs.Engines.{Live, Engined, live_in}
use Rattle.kn_propagate.specs.Chains.{seen_as, held_bounded, held_watches}
use Rattle.kn_propagate.specs.Wholes.{live_of, IsWhole, IsVacant}
use Rattle.kn_propagate.proofs.Handing.{engine_is}
use Rattle.kn_propagate.proofs.Engined.{whole_room, whole_vacant, vacant_live, whole_added, added_live}
use Rattle.kn_propagate.proofs.engine.Engine.add.Goals as goal

on_err : {A E : Type 0} (r : Result A E) (P : Type 0) → P → OnErr r P
on_err (Ok x) P p = tt
on_err (Err e) P p = p

abbrev the_engine : Trailed → List Live → Option Step → Engined
the_engine t live last = record { trail = t; live = live; last = last }

pub invariant_of-self : goal.invariant_of-self
invariant_of-self g c =
    let b = held_bounded g.C.Watched.bounded g.K.Watched.bounded in
    let w = held_watches g.C.Watched.watches g.K.Watched.watches in
    let t = c.self.inside.trail in
    let ws = seen_as b w c.self.inside.slots.items in
    let find : ℕ → Option ℕ = get nat_eq c.self.inside.index in
    let last = c.self.inside.last in
    let visited = c.self.inside.visited in
    let inv = c.self.invariant in
    whole_room t ws ws c.self.inside.chains c.reserve.new.self visited last c.self.inside.pending.items c.self.inside.pending.items find find inv c.reserve.ensures.same refl refl (λ id. refl)

pub returns-in_err-reserve-clause-kept : goal.returns-in_err-reserve-clause-kept
returns-in_err-reserve-clause-kept g c =
    let b = held_bounded g.C.Watched.bounded g.K.Watched.bounded in
    let w = held_watches g.C.Watched.watches g.K.Watched.watches in
    let t = c.self.inside.trail in
    let ws = seen_as b w c.self.inside.slots.items in
    let find : ℕ → Option ℕ = get nat_eq c.self.inside.index in
    let last = c.self.inside.last in
    let visited = c.self.inside.visited in
    let inv = c.self.invariant in
    engine_is t ws c.reserve.new.self visited last c.self.inside.pending.items find (whole_room t ws ws c.self.inside.chains c.reserve.new.self visited last c.self.inside.pending.items c.self.inside.pending.items find find inv c.reserve.ensures.same refl refl (λ id. refl))

pub invariant_of-self-in_err-reserve-2 : goal.invariant_of-self-in_err-reserve-2
invariant_of-self-in_err-reserve-2 g c =
    let b = held_bounded g.C.Watched.bounded g.K.Watched.bounded in
    let w = held_watches g.C.Watched.watches g.K.Watched.watches in
    let t = c.self.inside.trail in
    let ws = seen_as b w c.self.inside.slots.items in
    let find : ℕ → Option ℕ = get nat_eq c.self.inside.index in
    let last = c.self.inside.last in
    let visited = c.self.inside.visited in
    let inv = c.self.invariant in
    whole_room t ws ws c.self.inside.chains c.reserve.new.self visited last c.self.inside.pending.items c.reserve-2.new.self.items find find inv c.reserve.ensures.same refl c.reserve-2.ensures.items (λ id. refl)

pub returns-in_err-reserve-2-clause-kept : goal.returns-in_err-reserve-2-clause-kept
returns-in_err-reserve-2-clause-kept g c =
    let b = held_bounded g.C.Watched.bounded g.K.Watched.bounded in
    let w = held_watches g.C.Watched.watches g.K.Watched.watches in
    let t = c.self.inside.trail in
    let ws = seen_as b w c.self.inside.slots.items in
    let find : ℕ → Option ℕ = get nat_eq c.self.inside.index in
    let last = c.self.inside.last in
    let visited = c.self.inside.visited in
    let inv = c.self.invariant in
    engine_is t ws c.reserve.new.self visited last c.reserve-2.new.self.items find (whole_room t ws ws c.self.inside.chains c.reserve.new.self visited last c.self.inside.pending.items c.reserve-2.new.self.items find find inv c.reserve.ensures.same refl c.reserve-2.ensures.items (λ id. refl))

pub invariant_of-self-in_err-owner : goal.invariant_of-self-in_err-owner
invariant_of-self-in_err-owner g c =
    let b = held_bounded g.C.Watched.bounded g.K.Watched.bounded in
    let w = held_watches g.C.Watched.watches g.K.Watched.watches in
    let t = c.self.inside.trail in
    let ws = seen_as b w c.self.inside.slots.items in
    let find : ℕ → Option ℕ = get nat_eq c.self.inside.index in
    let last = c.self.inside.last in
    let visited = c.self.inside.visited in
    let inv = c.self.invariant in
    whole_room t ws (seen_as b w c.vacant.new.slots.items) c.self.inside.chains c.reserve.new.self visited last c.self.inside.pending.items c.reserve-2.new.self.items find find inv c.reserve.ensures.same (ap (seen_as b w) c.in_err-owner.ensures.err) c.reserve-2.ensures.items (λ id. refl)

pub returns-in_err-owner-clause-kept : goal.returns-in_err-owner-clause-kept
returns-in_err-owner-clause-kept g c =
    let b = held_bounded g.C.Watched.bounded g.K.Watched.bounded in
    let w = held_watches g.C.Watched.watches g.K.Watched.watches in
    let t = c.self.inside.trail in
    let ws = seen_as b w c.self.inside.slots.items in
    let find : ℕ → Option ℕ = get nat_eq c.self.inside.index in
    let last = c.self.inside.last in
    let visited = c.self.inside.visited in
    let inv = c.self.invariant in
    engine_is t (seen_as b w c.vacant.new.slots.items) c.reserve.new.self visited last c.reserve-2.new.self.items find (whole_room t ws (seen_as b w c.vacant.new.slots.items) c.self.inside.chains c.reserve.new.self visited last c.self.inside.pending.items c.reserve-2.new.self.items find find inv c.reserve.ensures.same (ap (seen_as b w) c.in_err-owner.ensures.err) c.reserve-2.ensures.items (λ id. refl))

pub invariant_of-self-in_err-insert : goal.invariant_of-self-in_err-insert
invariant_of-self-in_err-insert g c =
    let b = held_bounded g.C.Watched.bounded g.K.Watched.bounded in
    let w = held_watches g.C.Watched.watches g.K.Watched.watches in
    let t = c.self.inside.trail in
    let ws = seen_as b w c.self.inside.slots.items in
    let find : ℕ → Option ℕ = get nat_eq c.self.inside.index in
    let last = c.self.inside.last in
    let visited = c.self.inside.visited in
    let inv = c.self.invariant in
    let ws1 = seen_as b w c.vacant.new.slots.items in
    let owner : ℕ = c.in_ok-owner.owner in
    let vacant : IsVacant ws ws1 owner = c.in_ok-owner.ensures.ok in
    whole_vacant t ws ws1 owner c.reserve.new.self visited last c.reserve-2.new.self.items (get nat_eq c.insert.new.self) vacant (whole_room t ws ws c.self.inside.chains c.reserve.new.self visited last c.self.inside.pending.items c.reserve-2.new.self.items find (get nat_eq c.insert.new.self) inv c.reserve.ensures.same refl c.reserve-2.ensures.items (λ id. grind (arith, common_steps, c.in_err-insert.ensures.err)))

pub returns-in_err-insert-clause-kept : goal.returns-in_err-insert-clause-kept
returns-in_err-insert-clause-kept g c =
    let b = held_bounded g.C.Watched.bounded g.K.Watched.bounded in
    let w = held_watches g.C.Watched.watches g.K.Watched.watches in
    let t = c.self.inside.trail in
    let ws = seen_as b w c.self.inside.slots.items in
    let find : ℕ → Option ℕ = get nat_eq c.self.inside.index in
    let last = c.self.inside.last in
    let visited = c.self.inside.visited in
    let inv = c.self.invariant in
    let ws1 = seen_as b w c.vacant.new.slots.items in
    let owner : ℕ = c.in_ok-owner.owner in
    let vacant : IsVacant ws ws1 owner = c.in_ok-owner.ensures.ok in
    engine_is t ws1 c.reserve.new.self visited last c.reserve-2.new.self.items (get nat_eq c.insert.new.self) (whole_vacant t ws ws1 owner c.reserve.new.self visited last c.reserve-2.new.self.items (get nat_eq c.insert.new.self) vacant (whole_room t ws ws c.self.inside.chains c.reserve.new.self visited last c.self.inside.pending.items c.reserve-2.new.self.items find (get nat_eq c.insert.new.self) inv c.reserve.ensures.same refl c.reserve-2.ensures.items (λ id. grind (arith, common_steps, c.in_err-insert.ensures.err))))

pub returns-in_err-insert-clause-err : goal.returns-in_err-insert-clause-err
returns-in_err-insert-clause-err g c =
    let b = held_bounded g.C.Watched.bounded g.K.Watched.bounded in
    let w = held_watches g.C.Watched.watches g.K.Watched.watches in
    let t = c.self.inside.trail in
    let ws = seen_as b w c.self.inside.slots.items in
    let find : ℕ → Option ℕ = get nat_eq c.self.inside.index in
    let last = c.self.inside.last in
    let visited = c.self.inside.visited in
    let inv = c.self.invariant in
    let ws1 = seen_as b w c.vacant.new.slots.items in
    let owner : ℕ = c.in_ok-owner.owner in
    let vacant : IsVacant ws ws1 owner = c.in_ok-owner.ensures.ok in
    on_err c.from_residual-in_err-insert.result _ (ap (λ (x : List Live). the_engine t x last) (vacant_live ws ws1 owner vacant) ∙ c.self.view_is)

pub insert-requires-2-clause-tabled : goal.insert-requires-2-clause-tabled
insert-requires-2-clause-tabled g c =
    let b = held_bounded g.C.Watched.bounded g.K.Watched.bounded in
    let w = held_watches g.C.Watched.watches g.K.Watched.watches in
    let t = c.self.inside.trail in
    let ws = seen_as b w c.self.inside.slots.items in
    let find : ℕ → Option ℕ = get nat_eq c.self.inside.index in
    let last = c.self.inside.last in
    let visited = c.self.inside.visited in
    let inv = c.self.invariant in
    let ws1 = seen_as b w c.vacant.new.slots.items in
    let owner : ℕ = c.in_ok-owner.owner in
    let vacant : IsVacant ws ws1 owner = c.in_ok-owner.ensures.ok in
    let whole : IsWhole t ws1 c.reserve.new.self visited last c.reserve-2.new.self.items find = whole_vacant t ws ws1 owner c.reserve.new.self visited last c.reserve-2.new.self.items find vacant (whole_room t ws ws c.self.inside.chains c.reserve.new.self visited last c.self.inside.pending.items c.reserve-2.new.self.items find find inv c.reserve.ensures.same refl c.reserve-2.ensures.items (λ id. refl)) in
    whole.tabled

pub insert-requires-2-clause-waits : goal.insert-requires-2-clause-waits
insert-requires-2-clause-waits g c k lt short =
    let same : c.self.inside.trail ≡ c.args.self.now.trail = ap (λ (x : Engined). x.trail) c.self.view_is in
    c.requires.waits k (subst (λ (x : Trailed). k < x.level) same lt) (subst (λ (x : Trailed). IsShort (literals (below (k + 1) x.made)) (held_bounded g.C.Watched.bounded g.K.Watched.bounded c.args.watch)) same short)

pub invariant_of-self-2 : goal.invariant_of-self-2
invariant_of-self-2 g c =
    let b = held_bounded g.C.Watched.bounded g.K.Watched.bounded in
    let w = held_watches g.C.Watched.watches g.K.Watched.watches in
    let t = c.self.inside.trail in
    let ws = seen_as b w c.self.inside.slots.items in
    let find : ℕ → Option ℕ = get nat_eq c.self.inside.index in
    let last = c.self.inside.last in
    let visited = c.self.inside.visited in
    let inv = c.self.invariant in
    let ws1 = seen_as b w c.vacant.new.slots.items in
    let owner : ℕ = c.in_ok-owner.owner in
    let vacant : IsVacant ws ws1 owner = c.in_ok-owner.ensures.ok in
    let whole : IsWhole t ws1 c.reserve.new.self visited last c.reserve-2.new.self.items find = whole_vacant t ws ws1 owner c.reserve.new.self visited last c.reserve-2.new.self.items find vacant (whole_room t ws ws c.self.inside.chains c.reserve.new.self visited last c.self.inside.pending.items c.reserve-2.new.self.items find find inv c.reserve.ensures.same refl c.reserve-2.ensures.items (λ id. refl)) in
    let new = seen_as b w c.insert-2.new.slots.items in
    let found : ℕ → Option ℕ = get nat_eq c.insert.new.self in
    let fresh : live_in (live_of ws1) c.args.id ≡ None = ap (λ (x : List Live). live_in x c.args.id) (vacant_live ws ws1 owner vacant) ∙ ap (λ (x : Engined). live_in x.live c.args.id) c.self.view_is ∙ c.requires.fresh in
    let added : IsWhole t new c.insert-2.new.chains visited None c.insert-2.new.pending.items found = whole_added t ws1 new c.insert-2.new.chains visited owner c.args.id (b c.args.watch) c.insert-2.new.pending.items find found c.insert-2.ensures.tabled vacant.inside vacant.free c.insert-2.ensures.added whole.index fresh (λ q. c.in_ok-insert.ensures.updates.0 q) in
    added

pub returns-clause-kept : goal.returns-clause-kept
returns-clause-kept g c =
    let b = held_bounded g.C.Watched.bounded g.K.Watched.bounded in
    let w = held_watches g.C.Watched.watches g.K.Watched.watches in
    let t = c.self.inside.trail in
    let ws = seen_as b w c.self.inside.slots.items in
    let find : ℕ → Option ℕ = get nat_eq c.self.inside.index in
    let last = c.self.inside.last in
    let visited = c.self.inside.visited in
    let inv = c.self.invariant in
    let ws1 = seen_as b w c.vacant.new.slots.items in
    let owner : ℕ = c.in_ok-owner.owner in
    let vacant : IsVacant ws ws1 owner = c.in_ok-owner.ensures.ok in
    let whole : IsWhole t ws1 c.reserve.new.self visited last c.reserve-2.new.self.items find = whole_vacant t ws ws1 owner c.reserve.new.self visited last c.reserve-2.new.self.items find vacant (whole_room t ws ws c.self.inside.chains c.reserve.new.self visited last c.self.inside.pending.items c.reserve-2.new.self.items find find inv c.reserve.ensures.same refl c.reserve-2.ensures.items (λ id. refl)) in
    let new = seen_as b w c.insert-2.new.slots.items in
    let found : ℕ → Option ℕ = get nat_eq c.insert.new.self in
    let fresh : live_in (live_of ws1) c.args.id ≡ None = ap (λ (x : List Live). live_in x c.args.id) (vacant_live ws ws1 owner vacant) ∙ ap (λ (x : Engined). live_in x.live c.args.id) c.self.view_is ∙ c.requires.fresh in
    let added : IsWhole t new c.insert-2.new.chains visited None c.insert-2.new.pending.items found = whole_added t ws1 new c.insert-2.new.chains visited owner c.args.id (b c.args.watch) c.insert-2.new.pending.items find found c.insert-2.ensures.tabled vacant.inside vacant.free c.insert-2.ensures.added whole.index fresh (λ q. c.in_ok-insert.ensures.updates.0 q) in
    engine_is t new c.insert-2.new.chains visited None c.insert-2.new.pending.items found added

pub returns-clause-live : goal.returns-clause-live
returns-clause-live g c =
    let b = held_bounded g.C.Watched.bounded g.K.Watched.bounded in
    let w = held_watches g.C.Watched.watches g.K.Watched.watches in
    let t = c.self.inside.trail in
    let ws = seen_as b w c.self.inside.slots.items in
    let find : ℕ → Option ℕ = get nat_eq c.self.inside.index in
    let last = c.self.inside.last in
    let visited = c.self.inside.visited in
    let inv = c.self.invariant in
    let ws1 = seen_as b w c.vacant.new.slots.items in
    let owner : ℕ = c.in_ok-owner.owner in
    let vacant : IsVacant ws ws1 owner = c.in_ok-owner.ensures.ok in
    added_live ws1 (seen_as b w c.insert-2.new.slots.items) owner c.args.id (b c.args.watch) c.args.self.now.live (vacant_live ws ws1 owner vacant ∙ ap (λ (x : Engined). x.live) c.self.view_is) vacant.inside vacant.free c.insert-2.ensures.added
