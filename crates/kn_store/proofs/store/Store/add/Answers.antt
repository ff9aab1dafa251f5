use Rattle.std.proofs.Common.{◌∙◌, ◌+◌, ◌≤◌, ◌++◌, ◌∷◌, [], Some, length, take, ap, sym, subst, arith, get_or}
use Rattle.std.specs.List.{AllByRecursion}
use Rattle.std.specs.Vec.{with_items}
use Rattle.kn_logic.specs.Constraints.{named, Fits}
use Rattle.kn_store.specs.Kept.{with_id, without_id}
use Rattle.kn_store.proofs.Changed.{length-changed}
use Rattle.kn_store.proofs.Keeps.{low-lists, added, not-added, pushed, with-all, live-low}
use Rattle.kn_store.proofs.store.Store.add.Goals as goal

pub enter-requires-clause-last : goal.enter-requires-clause-last
enter-requires-clause-last c = λ k.
    let long = c.self.inside.slots.ok.0 in
    let e = c.len.ensures in
    subst (λ z. AllByRecursion (λ i. i ≤ c.len.result + 1) (get_or z k [])) (sym c.deref_mut.ensures.value)
    (low-lists c.self.inside.vars c.self.inside.live (c.len.result + 1) c.self.inside.slots.items c.self.inside.lists.items c.self.invariant (omega (arith, long, e)) k)

pub overflow_add-self : goal.overflow_add-self
overflow_add-self c =
    let count = c.self.invariant.count in
    let low = live-low 0 c.self.inside.slots.items in
    let room = c.requires.room in
    let added = ap (λ s. s.added) c.self.view_is in
    omega (arith, count, low, room, added)

pub invariant_of-self-in-Ok : goal.invariant_of-self-in-Ok
invariant_of-self-in-Ok c =
    let long = c.self.inside.slots.ok.0 in
    let e = c.len.ensures in
    let lists = with-all c.self.inside.lists c.deref_mut.result.now c.enter.new.lists c.deref_mut.ensures.value (ap length c.in-Ok.ensures.ok ∙ length-changed (with_id (c.len.result + 1)) c.deref_mut.result.now (named c.args.c)) in
    added c.self.inside.vars c.self.inside.live (c.len.result + 1) c.self.inside.slots.items c.push_reserved.new.self.items c.self.inside.lists.items c.deref_mut.result.now _ c.args.c
    c.self.invariant (subst (λ n. Fits n c.args.c) (sym (ap (λ s. s.vars) c.self.view_is)) c.requires.fits) (omega (arith, long, e))
    (c.push_reserved.ensures.items ∙ ap (λ z. z ++ Some c.args.c ∷ []) c.in_ok-reserve.ensures.items) c.deref_mut.ensures.value (lists ∙ c.in-Ok.ensures.ok)

pub invariant_of-self-in-Err-1 : goal.invariant_of-self-in-Err-1
invariant_of-self-in-Err-1 c =
    let long = c.self.inside.slots.ok.0 in
    let e = c.len.ensures in
    let h = c.in-Err.ensures.err in
    let came = with-all c.self.inside.lists c.deref_mut.result.now c.enter.new.lists c.deref_mut.ensures.value (ap length h.1 ∙ length-changed (with_id (c.len.result + 1)) c.deref_mut.result.now (take h.0 (named c.args.c))) in
    let left = with-all (with_items c.self.inside.lists c.enter.new.lists) c.deref_mut-in-Err.result.now c.leave.new.lists c.deref_mut-in-Err.ensures.value (ap length c.leave.ensures ∙ length-changed (without_id (c.len.result + 1)) c.deref_mut-in-Err.result.now (named c.args.c)) in
    not-added c.self.inside.vars c.self.inside.live (c.len.result + 1) h.0 c.self.inside.slots.items c.reserve.new.self.items c.self.inside.lists.items c.deref_mut.result.now c.deref_mut-in-Err.result.now c.leave.new.lists _ c.args.c
    c.self.invariant (subst (λ n. Fits n c.args.c) (sym (ap (λ s. s.vars) c.self.view_is)) c.requires.fits).within (omega (arith, long, e))
    c.in_ok-reserve.ensures.items c.deref_mut.ensures.value (c.deref_mut-in-Err.ensures.value ∙ came ∙ h.1) c.leave.ensures left

pub returns-in-Ok-clause-ok : goal.returns-in-Ok-clause-ok
returns-in-Ok-clause-ok c =
    let items = c.push_reserved.ensures.items ∙ ap (λ z. z ++ Some c.args.c ∷ []) c.in_ok-reserve.ensures.items in
    pushed c.self.inside.vars c.self.inside.slots.items c.push_reserved.new.self.items c.args.c items
    ∙ ap (λ s. record { vars = s.vars; added = s.added + 1; live = s.live ++ record { id = s.added + 1; constraint = c.args.c } ∷ [] }) c.self.view_is
