use Rattle.std.proofs.Common.{◌-◌, ◌∙◌, sym, arith, None}
use Rattle.std.proofs.lemmas.List.{get_or_default}
use Rattle.kn_store.proofs.Emptied.{at-slot, low-none, high-none}
use Rattle.kn_store.proofs.slots.constraint.Goals.{then-id-eq0-via-then-id-eq0, then-id-eq0-via-else-id-eq0+then-slots-id}
use Rattle.kn_store.proofs.slots.constraint.Goals as goal

pub returns-then-id-eq0 : goal.returns-then-id-eq0
returns-then-id-eq0 c =
    elim c.then-id-eq0.branch [
      | then-id-eq0-via-then-id-eq0 w ↦ let e = w.if-id-eq0.true in sym (low-none 0 c.args.slots.now c.args.id (omega (arith, e)))
      | then-id-eq0-via-else-id-eq0+then-slots-id w ↦
          let some = w.if-id-eq0.false in
          let high = w.if-slots-id.true in
          sym (high-none c.args.slots.now c.args.id (omega (arith, some, high)))
    ]

pub returns : goal.returns
returns c =
    let some = c.if-id-eq0.false in
    let low = c.if-slots-id.false in
    c.as_ref.ensures.value ∙ c.index-slots-id.is ∙ get_or_default c.args.slots.now (c.args.id - 1) c.index-slots-id.result None (omega (arith, some, low))
    ∙ sym (at-slot 0 c.args.slots.now (c.args.id - 1) c.args.id (omega (arith, some)))
