use Rattle.std.proofs.Common.{◌≡◌, List, Ok, Err, length, map, sym, ap, subst, ◌∙◌, rules}
use Rattle.std.specs.List.{AllByRecursion}
use Rattle.kn_rules.specs.declared.slot.Slot.{Slot}
use Rattle.kn_rules.specs.Causes.{not_live}
use Rattle.kn_rules.specs.Steps.{deleted}
use Rattle.kn_rules.specs.Entries.{Entered, IsSlotOf, given_of}
use Rattle.kn_rules.specs.Restoring.{deleted_slots, restored}
use Rattle.kn_rules.proofs.Deleting.{given-after, still-right, written}
use Rattle.kn_rules.proofs.entries.Entries.delete.Goals as goal

pub invariant_of-self : goal.invariant_of-self
invariant_of-self c =
    let len : length c.take_out.new.slots ≡ c.self.inside.slots.len = search rules in
    let stepped : deleted_slots c.self.inside.slots.items c.args.ids.now ≡ Ok c.take_out.new.slots = search rules in
    subst (AllByRecursion (IsSlotOf (length c.self.inside.definitions.list))) (sym (written _ _ _ len)) (still-right _ c.args.ids.now _ _ c.self.invariant stepped)

pub returns-then-take_out : goal.returns-then-take_out
returns-then-take_out c =
    let len : length c.take_out.new.slots ≡ c.self.inside.slots.len = search rules in
    let stepped : deleted_slots c.self.inside.slots.items c.args.ids.now ≡ Ok c.take_out.new.slots = search rules in (
      ap (λ (e : Entered). deleted e.given c.args.ids.now) (sym c.self.view_is)
          ∙ given-after c.self.inside.definitions c.args.ids.now c.self.inside.slots.items _ c.self.invariant stepped
          ∙ ap (λ (s : List Slot). Ok (map (given_of c.self.inside.definitions) s)) (sym (written _ _ _ len)),
      ap (λ (e : Entered). e.defined) c.self.view_is,
    )

pub returns : goal.returns
returns c =
    let len : length c.take_out.new.slots ≡ c.self.inside.slots.len = search rules in
    let stuck : deleted_slots c.self.inside.slots.items c.args.ids.now ≡ Err not_live = search rules in
    let value = c.deref_mut-2.ensures.value ∙ written _ c.self.inside.slots.items _ len in
    let same : c.put_back.new.slots ≡ c.self.inside.slots.items = c.put_back.ensures ∙ ap (λ (s : List Slot). restored s c.args.ids.now c.take_out.new.taken.items) value ∙ c.take_out.ensures.back ∙ c.deref_mut.ensures.value in
    let len-2 : length c.put_back.new.slots ≡ c.self.inside.slots.len = search rules in (
      ap (λ (e : Entered). deleted e.given c.args.ids.now) (sym c.self.view_is)
          ∙ given-after c.self.inside.definitions c.args.ids.now c.self.inside.slots.items _ c.self.invariant stuck,
      ap (λ (s : List Slot). record { defined = c.self.inside.definitions; given = map (given_of c.self.inside.definitions) s }) (written _ _ _ len-2 ∙ same) ∙ c.self.view_is,
    )
