use Rattle.std.proofs.Common.{◌≡◌, ◌*◌, ◌+◌, ◌≤◌, ℕ, List, Some, length, refl, sym, ap, ◌∙◌, subst, inl, inr, arith}
use Rattle.std.specs.Prelude.{slice_set}
use Rattle.std.proofs.Math.ListN.{length-set}
use Rattle.kn_logic.specs.Constraints.{Bounded, IsWithin}
use Rattle.kn_logic.specs.Propagation.{IsShort}
use Rattle.kn_watch.specs.Trails.{literals, below}
use Rattle.kn_watch.specs.Watches.{listed}
use Rattle.kn_propagate.specs.Chains.{Watching, seen_as, at_slot, cut, nobody, IsStill}
use Rattle.kn_propagate.specs.Wholes.{IsTabled}
use Rattle.kn_propagate.proofs.Turning.{seen_set}
use Rattle.kn_propagate.proofs.Adding.{still_agrees}
use Rattle.kn_propagate.proofs.Changing.{Changes, changes_set, changes_cut, agrees_changed, each, bare_free, bare_cut}
use Rattle.kn_propagate.proofs.Placing.{tabled_rests, tabled_waits}
use Rattle.kn_propagate.proofs.inserting.insert.Goals as goal

few_set : (ws new : List Watching) (owner : ℕ) (x : Watching) → new ≡ slice_set ws owner x → length ws ≤ nobody → length new ≤ nobody
few_set ws new owner x is few = omega (arith, few, ap (λ (z : List Watching). length z) is, length-set ws owner x)

pub attach-requires-clause-still : goal.attach-requires-clause-still
attach-requires-clause-still g c =
    let b = g.W.Watched.bounded in
    let w = g.W.Watched.watches in
    let slots = c.args.slots.now.items in
    let ws = seen_as b w slots in
    let owner : ℕ = c.args.owner in
    let r = c.requires in
    let d = c.first_watches-visit.new.self in
    let x : Watching = record { id = Some c.args.id; c = b d; watches = w d } in
    let new = seen_as b w (slice_set slots owner (record { id = Some c.args.id; watch = d })) in
    let is : new ≡ slice_set ws owner x = seen_set b w slots owner (record { id = Some c.args.id; watch = d }) in
    subst (λ (z : List Watching). IsStill (cut z owner 0) c.args.chains.now) (sym is)
    (still_agrees ws (cut (slice_set ws owner x) owner 0) c.args.chains.now (agrees_changed ws (cut (slice_set ws owner x) owner 0) owner _ (changes_cut ws owner x r.owner) (λ lt. bare_free (at_slot ws owner) (r.tabled.kept owner lt) r.free) (bare_cut x)) r.tabled.still)

pub returns-in-Moved-clause-tabled : goal.returns-in-Moved-clause-tabled
returns-in-Moved-clause-tabled g c =
    let b = g.W.Watched.bounded in
    let w = g.W.Watched.watches in
    let slots = c.args.slots.now.items in
    let ws = seen_as b w slots in
    let owner : ℕ = c.args.owner in
    let r = c.requires in
    let d = c.first_watches-visit.new.self in
    let x : Watching = record { id = Some c.args.id; c = b d; watches = w d } in
    let new = seen_as b w (slice_set slots owner (record { id = Some c.args.id; watch = d })) in
    let is : new ≡ slice_set ws owner x = seen_set b w slots owner (record { id = Some c.args.id; watch = d }) in
    let change : Changes ws new owner x = subst (λ (z : List Watching). Changes ws z owner x) (sym is) (changes_set ws owner x r.owner) in
    let same = c.first_watches-visit.ensures.same in
    let within = subst (IsWithin c.args.trail.now.vars) (sym same) r.within in
    let still = c.attach.ensures.still in
    let sized = c.attach.ensures.sized ∙ ap (λ (n : ℕ). 2 * n + 3) c.vars.ensures.vars in
    let few : length new ≤ nobody = few_set ws new owner x is r.tabled.few in
    tabled_rests c.args.trail.now ws new owner x c.args.chains.now c.attach.new.chains c.args.visited c.args.id c.args.pending.now.items r.tabled change r.free still c.attach.ensures.spare sized few within c.first_watches-visit.ensures.watches refl (λ k lt short. r.waits k lt (subst (IsShort (literals (below (k + 1) c.args.trail.now.made))) same short)) (inl (c.in-Moved.place, c.in-Moved.ensures.means))

pub returns-in-Satisfied-clause-tabled : goal.returns-in-Satisfied-clause-tabled
returns-in-Satisfied-clause-tabled g c =
    let b = g.W.Watched.bounded in
    let w = g.W.Watched.watches in
    let slots = c.args.slots.now.items in
    let ws = seen_as b w slots in
    let owner : ℕ = c.args.owner in
    let r = c.requires in
    let d = c.first_watches-visit.new.self in
    let x : Watching = record { id = Some c.args.id; c = b d; watches = w d } in
    let new = seen_as b w (slice_set slots owner (record { id = Some c.args.id; watch = d })) in
    let is : new ≡ slice_set ws owner x = seen_set b w slots owner (record { id = Some c.args.id; watch = d }) in
    let change : Changes ws new owner x = subst (λ (z : List Watching). Changes ws z owner x) (sym is) (changes_set ws owner x r.owner) in
    let same = c.first_watches-visit.ensures.same in
    let within = subst (IsWithin c.args.trail.now.vars) (sym same) r.within in
    let still = c.attach.ensures.still in
    let sized = c.attach.ensures.sized ∙ ap (λ (n : ℕ). 2 * n + 3) c.vars.ensures.vars in
    let few : length new ≤ nobody = few_set ws new owner x is r.tabled.few in
    tabled_rests c.args.trail.now ws new owner x c.args.chains.now c.attach.new.chains c.args.visited c.args.id c.args.pending.now.items r.tabled change r.free still c.attach.ensures.spare sized few within c.first_watches-visit.ensures.watches refl (λ k lt short. r.waits k lt (subst (IsShort (literals (below (k + 1) c.args.trail.now.made))) same short)) (inr c.in-Satisfied.ensures.means)

pub returns-in-Forces-clause-tabled : goal.returns-in-Forces-clause-tabled
returns-in-Forces-clause-tabled g c =
    let b = g.W.Watched.bounded in
    let w = g.W.Watched.watches in
    let slots = c.args.slots.now.items in
    let ws = seen_as b w slots in
    let owner : ℕ = c.args.owner in
    let r = c.requires in
    let d = c.first_watches-visit.new.self in
    let x : Watching = record { id = Some c.args.id; c = b d; watches = w d } in
    let new = seen_as b w (slice_set slots owner (record { id = Some c.args.id; watch = d })) in
    let is : new ≡ slice_set ws owner x = seen_set b w slots owner (record { id = Some c.args.id; watch = d }) in
    let change : Changes ws new owner x = subst (λ (z : List Watching). Changes ws z owner x) (sym is) (changes_set ws owner x r.owner) in
    let same = c.first_watches-visit.ensures.same in
    let within = subst (IsWithin c.args.trail.now.vars) (sym same) r.within in
    let still = c.attach.ensures.still in
    let sized = c.attach.ensures.sized ∙ ap (λ (n : ℕ). 2 * n + 3) c.vars.ensures.vars in
    let few : length new ≤ nobody = few_set ws new owner x is r.tabled.few in
    subst (λ (p : List ℕ). IsTabled c.args.trail.now new c.attach.new.chains c.args.visited p) (sym c.due.ensures)
    (tabled_waits c.args.trail.now ws new owner x c.args.chains.now c.attach.new.chains c.args.visited c.args.id c.args.pending.now.items r.tabled change r.free still c.attach.ensures.spare sized few within c.first_watches-visit.ensures.watches refl (λ k lt short. r.waits k lt (subst (IsShort (literals (below (k + 1) c.args.trail.now.made))) same short)) (inl c.in-Forces.ensures.means))

pub returns-in-Conflict-clause-tabled : goal.returns-in-Conflict-clause-tabled
returns-in-Conflict-clause-tabled g c =
    let b = g.W.Watched.bounded in
    let w = g.W.Watched.watches in
    let slots = c.args.slots.now.items in
    let ws = seen_as b w slots in
    let owner : ℕ = c.args.owner in
    let r = c.requires in
    let d = c.first_watches-visit.new.self in
    let x : Watching = record { id = Some c.args.id; c = b d; watches = w d } in
    let new = seen_as b w (slice_set slots owner (record { id = Some c.args.id; watch = d })) in
    let is : new ≡ slice_set ws owner x = seen_set b w slots owner (record { id = Some c.args.id; watch = d }) in
    let change : Changes ws new owner x = subst (λ (z : List Watching). Changes ws z owner x) (sym is) (changes_set ws owner x r.owner) in
    let same = c.first_watches-visit.ensures.same in
    let within = subst (IsWithin c.args.trail.now.vars) (sym same) r.within in
    let still = c.attach.ensures.still in
    let sized = c.attach.ensures.sized ∙ ap (λ (n : ℕ). 2 * n + 3) c.vars.ensures.vars in
    let few : length new ≤ nobody = few_set ws new owner x is r.tabled.few in
    subst (λ (p : List ℕ). IsTabled c.args.trail.now new c.attach.new.chains c.args.visited p) (sym c.due-in-Conflict.ensures)
    (tabled_waits c.args.trail.now ws new owner x c.args.chains.now c.attach.new.chains c.args.visited c.args.id c.args.pending.now.items r.tabled change r.free still c.attach.ensures.spare sized few within c.first_watches-visit.ensures.watches refl (λ k lt short. r.waits k lt (subst (IsShort (literals (below (k + 1) c.args.trail.now.made))) same short)) (inr c.in-Conflict.ensures.means))

pub attach-requires-clause-within : goal.attach-requires-clause-within
attach-requires-clause-within g c =
    let b = g.W.Watched.bounded in
    let w = g.W.Watched.watches in
    let slots = c.args.slots.now.items in
    let ws = seen_as b w slots in
    let owner : ℕ = c.args.owner in
    let r = c.requires in
    let d = c.first_watches-visit.new.self in
    let x : Watching = record { id = Some c.args.id; c = b d; watches = w d } in
    let new = seen_as b w (slice_set slots owner (record { id = Some c.args.id; watch = d })) in
    let is : new ≡ slice_set ws owner x = seen_set b w slots owner (record { id = Some c.args.id; watch = d }) in
    let change : Changes ws new owner x = subst (λ (z : List Watching). Changes ws z owner x) (sym is) (changes_set ws owner x r.owner) in
    let v = sym c.vars.ensures.vars in
    each (λ y z. IsWithin c.vars.result z.c) ws new owner x change (λ y lt n. subst (λ (k : ℕ). IsWithin k (at_slot ws y).c) v (r.tabled.kept y lt).within) (subst (λ (k : ℕ). IsWithin k (b d)) v (subst (IsWithin c.args.trail.now.vars) (sym c.first_watches-visit.ensures.same) r.within))

pub attach-requires-clause-room : goal.attach-requires-clause-room
attach-requires-clause-room g c =
    let b = g.W.Watched.bounded in
    let w = g.W.Watched.watches in
    let slots = c.args.slots.now.items in
    let ws = seen_as b w slots in
    let owner : ℕ = c.args.owner in
    let r = c.requires in
    let d = c.first_watches-visit.new.self in
    let x : Watching = record { id = Some c.args.id; c = b d; watches = w d } in
    let new = seen_as b w (slice_set slots owner (record { id = Some c.args.id; watch = d })) in
    let is : new ≡ slice_set ws owner x = seen_set b w slots owner (record { id = Some c.args.id; watch = d }) in
    let change : Changes ws new owner x = subst (λ (z : List Watching). Changes ws z owner x) (sym is) (changes_set ws owner x r.owner) in
    omega (arith, r.room, ap (λ (z : Watching). length (listed z.c)) change.here, ap (λ (z : Bounded). length (listed z)) c.first_watches-visit.ensures.same)

pub returns-in-Moved-clause-added : goal.returns-in-Moved-clause-added
returns-in-Moved-clause-added g c =
    let d = c.first_watches-visit.new.self in
    (record { id = Some c.args.id; c = g.W.Watched.bounded d; watches = g.W.Watched.watches d }, seen_set g.W.Watched.bounded g.W.Watched.watches c.args.slots.now.items c.args.owner (record { id = Some c.args.id; watch = d }), refl, c.first_watches-visit.ensures.same)

pub returns-in-Satisfied-clause-added : goal.returns-in-Satisfied-clause-added
returns-in-Satisfied-clause-added g c =
    let d = c.first_watches-visit.new.self in
    (record { id = Some c.args.id; c = g.W.Watched.bounded d; watches = g.W.Watched.watches d }, seen_set g.W.Watched.bounded g.W.Watched.watches c.args.slots.now.items c.args.owner (record { id = Some c.args.id; watch = d }), refl, c.first_watches-visit.ensures.same)

pub returns-in-Forces-clause-added : goal.returns-in-Forces-clause-added
returns-in-Forces-clause-added g c =
    let d = c.first_watches-visit.new.self in
    (record { id = Some c.args.id; c = g.W.Watched.bounded d; watches = g.W.Watched.watches d }, seen_set g.W.Watched.bounded g.W.Watched.watches c.args.slots.now.items c.args.owner (record { id = Some c.args.id; watch = d }), refl, c.first_watches-visit.ensures.same)

pub returns-in-Conflict-clause-added : goal.returns-in-Conflict-clause-added
returns-in-Conflict-clause-added g c =
    let d = c.first_watches-visit.new.self in
    (record { id = Some c.args.id; c = g.W.Watched.bounded d; watches = g.W.Watched.watches d }, seen_set g.W.Watched.bounded g.W.Watched.watches c.args.slots.now.items c.args.owner (record { id = Some c.args.id; watch = d }), refl, c.first_watches-visit.ensures.same)
