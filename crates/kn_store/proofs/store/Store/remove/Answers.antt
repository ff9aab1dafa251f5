use Rattle.std.proofs.Common.{◌≡◌, ◌∙◌, ap, sym, subst, length, Some, ◌+◌}
use Rattle.kn_logic.specs.Constraints.{IsWithin, named}
use Rattle.kn_store.specs.Kept.{pairs_of, without_id}
use Rattle.kn_store.specs.Stores.{constraint_at}
use Rattle.kn_store.proofs.Changed.{length-changed}
use Rattle.kn_store.proofs.Keeps.{removed, fits-at, with-all}
use Rattle.kn_store.proofs.store.Store.remove.Goals as goal

pub leave-requires : goal.leave-requires
leave-requires c =
    let there : Some c.in-Some.c ≡ constraint_at (pairs_of 0 c.deref_mut.result.now) c.args.id = c.in-Some.ensures.value in
    let found = ap (λ z. constraint_at (pairs_of 0 z) c.args.id) (sym c.deref_mut.ensures.value) ∙ sym there in
    subst (λ n. IsWithin n c.in-Some.c) (sym (ap length c.deref_mut-2.ensures.value ∙ c.self.invariant.long))
    (fits-at c.self.inside.vars c.args.id c.in-Some.c (pairs_of 0 c.self.inside.slots.items) c.self.invariant.fits found).within

pub invariant_of-self-2 : goal.invariant_of-self-2
invariant_of-self-2 c =
    let slots = with-all c.self.inside.slots c.deref_mut.result.now c.emptied.new.slots c.deref_mut.ensures.value c.in-Some.ensures.len in
    let lists = with-all c.self.inside.lists c.deref_mut-2.result.now c.leave.new.lists c.deref_mut-2.ensures.value (ap length c.leave.ensures ∙ length-changed (without_id c.args.id) c.deref_mut-2.result.now (named c.in-Some.c)) in
    removed c.self.inside.vars c.self.inside.live c.args.id c.self.inside.slots.items c.deref_mut.result.now _ c.self.inside.lists.items c.deref_mut-2.result.now _ c.in-Some.c
    c.self.invariant c.deref_mut.ensures.value c.in-Some.ensures.value (ap (pairs_of 0) slots ∙ c.in-Some.ensures.gone) (ap (λ z. length (pairs_of 0 z) + 1) slots ∙ c.in-Some.ensures.count) c.deref_mut-2.ensures.value (lists ∙ c.leave.ensures)
