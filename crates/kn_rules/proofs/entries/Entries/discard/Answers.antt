use Rattle.std.proofs.Common.{◌≡◌, List, Ok, IsOk, length, map, sym, ap, subst, ◌∙◌, rules}
use Rattle.std.specs.List.{AllByRecursion}
use Rattle.kn_rules.specs.declared.slot.Slot.{Slot}
use Rattle.kn_rules.specs.Steps.{deleted}
use Rattle.kn_rules.specs.Entries.{Entered, IsSlotOf, given_of}
use Rattle.kn_rules.specs.Restoring.{deleted_slots}
use Rattle.kn_rules.proofs.Deleting.{slots-ok, given-after, still-right, written}
use Rattle.kn_rules.proofs.entries.Entries.discard.Goals as goal

pub remove-requires : goal.remove-requires
remove-requires c =
    subst (λ (s : List Slot). IsOk (deleted_slots s c.args.ids.now)) (sym c.deref_mut.ensures.value)
    (slots-ok c.self.inside.definitions c.args.ids.now c.self.inside.slots.items c.self.invariant
    (subst (λ (e : Entered). IsOk (deleted e.given c.args.ids.now)) (sym c.self.view_is) c.requires))

pub invariant_of-self : goal.invariant_of-self
invariant_of-self c =
    let len : length c.remove.new.slots ≡ c.self.inside.slots.len = search rules in
    let stepped : deleted_slots c.self.inside.slots.items c.args.ids.now ≡ Ok c.remove.new.slots = search rules in
    subst (AllByRecursion (IsSlotOf (length c.self.inside.definitions.list))) (sym (written _ _ _ len)) (still-right _ c.args.ids.now _ _ c.self.invariant stepped)

pub returns-clause-given : goal.returns-clause-given
returns-clause-given c =
    let len : length c.remove.new.slots ≡ c.self.inside.slots.len = search rules in
    let stepped : deleted_slots c.self.inside.slots.items c.args.ids.now ≡ Ok c.remove.new.slots = search rules in
    ap (λ (e : Entered). deleted e.given c.args.ids.now) (sym c.self.view_is)
    ∙ given-after c.self.inside.definitions c.args.ids.now c.self.inside.slots.items _ c.self.invariant stepped
    ∙ ap (λ (s : List Slot). Ok (map (given_of c.self.inside.definitions) s)) (sym (written _ _ _ len))
