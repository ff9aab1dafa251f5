use Rattle.std.proofs.Common.{◌+◌, ◌∙◌, sym, ap, arith}
use Rattle.kn_store.specs.Kept.{without_id}
use Rattle.kn_store.proofs.Places.{absent, IsLeft, left-front, left-back}
use Rattle.kn_store.proofs.ids.Ids.leave.Goals as goal

pub returns-in_default : goal.returns-in_default
returns-in_default c = sym c.ids.ensures.value ∙ absent c.args.id c.in_default.field-0 c.ids.result.now c.binary_search.result c.ids.ensures.ascending c.binary_search.ensures.position c.in_default.is ∙ ap (without_id c.args.id) c.ids.ensures.value

front : (c : goal.After-self-1) → IsLeft (c.self.inside.from + 1) c.args.id c.args.self.now c.copy_within.new.self.items
front c = left-front c.args.id c.in-Ok.place c.self.inside.from c.self.inside.ids.items c.ids.result.now c.copy_within.new.self.items c.args.self.now c.binary_search.result
    c.ids.ensures.ascending c.binary_search.ensures.position c.in-Ok.is c.ids.ensures.value c.self.view_is c.in-Ok.ensures.bound (omega (arith, c.copy_within.ensures.len, c.copy_within.new.self.ok.0, c.self.inside.ids.ok.0)) c.copy_within.ensures.items

back : (c : goal.After-remove) → IsLeft c.self.inside.from c.args.id c.args.self.now c.remove.new.self.items
back c = left-back c.args.id c.in-Ok.place c.self.inside.from c.self.inside.ids.items c.ids.result.now c.remove.new.self.items c.args.self.now c.binary_search.result
    c.ids.ensures.ascending c.binary_search.ensures.position c.in-Ok.is c.ids.ensures.value c.self.view_is c.in-Ok.ensures.bound (omega (arith, c.remove.ensures.len, c.remove.new.self.ok.0, c.self.inside.ids.ok.0)) c.remove.ensures.items

pub invariant_of-self : goal.invariant_of-self
invariant_of-self c = let f = front c in (f.inside, f.ascending)

pub invariant_of-self-else-place-len : goal.invariant_of-self-else-place-len
invariant_of-self-else-place-len c = let b = back c in (b.inside, b.ascending)

pub returns-then-place-len : goal.returns-then-place-len
returns-then-place-len c = (front c).left

pub returns-else-place-len : goal.returns-else-place-len
returns-else-place-len c = (back c).left
