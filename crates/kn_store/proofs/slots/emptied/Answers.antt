use Rattle.std.proofs.Common.{◌≡◌, ◌-◌, ◌∙◌, sym, ap, subst, arith, None, length, ◌+◌}
use Rattle.std.specs.Prelude.{IfSome, slice_set}
use Rattle.std.proofs.lemmas.List.{get_or_default}
use Rattle.kn_store.specs.Kept.{pairs_of}
use Rattle.kn_store.proofs.Emptied.{at-slot, low-none, high-none, set-emptied, fewer}
use Rattle.kn_store.proofs.Keeps.{none-left}
use Rattle.kn_store.proofs.slots.emptied.Goals.{then-id-eq0-via-then-id-eq0, then-id-eq0-via-else-id-eq0+then-slots-id}
use Rattle.kn_store.proofs.slots.emptied.Goals as goal

pub returns-then-id-eq0-clause-value : goal.returns-then-id-eq0-clause-value
returns-then-id-eq0-clause-value c =
    elim c.then-id-eq0.branch [
      | then-id-eq0-via-then-id-eq0 w ↦ let e = w.if-id-eq0.true in sym (low-none 0 c.args.slots.now c.args.id (omega (arith, e)))
      | then-id-eq0-via-else-id-eq0+then-slots-id w ↦
          let some = w.if-id-eq0.false in
          let high = w.if-slots-id.true in
          sym (high-none c.args.slots.now c.args.id (omega (arith, some, high)))
    ]

pub returns-then-id-eq0-clause-gone : goal.returns-then-id-eq0-clause-gone
returns-then-id-eq0-clause-gone c = none-left (pairs_of 0 c.args.slots.now) c.args.id (sym (returns-then-id-eq0-clause-value c))

pub returns-clause-value : goal.returns-clause-value
returns-clause-value c =
    let some = c.if-id-eq0.false in
    let low = c.if-slots-id.false in
    c.take.ensures.value ∙ get_or_default c.args.slots.now (c.args.id - 1) c.index-slots-id.result None (omega (arith, some, low))
    ∙ sym (at-slot 0 c.args.slots.now (c.args.id - 1) c.args.id (omega (arith, some)))

pub returns-clause-gone : goal.returns-clause-gone
returns-clause-gone c =
    let some = c.if-id-eq0.false in
    ap (λ o. pairs_of 0 (slice_set c.args.slots.now (c.args.id - 1) o)) c.take.ensures.after ∙ set-emptied 0 c.args.slots.now (c.args.id - 1) c.args.id (omega (arith, some))

pub returns-clause-count : goal.returns-clause-count
returns-clause-count c =
    let some = c.if-id-eq0.false in
    let low = c.if-slots-id.false in
    let was = c.take.ensures.value ∙ get_or_default c.args.slots.now (c.args.id - 1) c.index-slots-id.result None (omega (arith, some, low)) in
    subst (λ o. IfSome c.take.result (λ x. length (pairs_of 0 (slice_set c.args.slots.now (c.args.id - 1) o)) + 1 ≡ length (pairs_of 0 c.args.slots.now))) (sym c.take.ensures.after)
    (subst (λ o. IfSome o (λ x. length (pairs_of 0 (slice_set c.args.slots.now (c.args.id - 1) None)) + 1 ≡ length (pairs_of 0 c.args.slots.now))) (sym was) (fewer 0 c.args.slots.now (c.args.id - 1)))
