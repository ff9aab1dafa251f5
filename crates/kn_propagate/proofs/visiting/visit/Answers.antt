use Rattle.std.proofs.Common.{◌<◌, ℕ, length, ap, ◌∙◌, arith}
use Rattle.kn_propagate.specs.Chains.{Watching, seen_as}
use Rattle.kn_propagate.proofs.Turning.{length-seen, slot_is}
use Rattle.kn_propagate.proofs.Reasons.{reasons_of}
use Rattle.kn_propagate.proofs.Resting.{grown_same}
use Rattle.kn_propagate.proofs.visiting.visit.Goals as goal

pub returns-in-Moved-clause-present : goal.returns-in-Moved-clause-present
returns-in-Moved-clause-present g c = grown_same c.args.trail.now c.requires.trail

pub returns-in-Satisfied-clause-present : goal.returns-in-Satisfied-clause-present
returns-in-Satisfied-clause-present g c = grown_same c.args.trail.now c.requires.trail

pub returns-in-Conflict-clause-present : goal.returns-in-Conflict-clause-present
returns-in-Conflict-clause-present g c = grown_same c.args.trail.now c.requires.trail

pub returns-then-push_forced-clause-reasons : goal.returns-then-push_forced-clause-reasons
returns-then-push_forced-clause-reasons g c =
    let b = g.W.Watched.bounded in
    let ws = seen_as b g.W.Watched.watches c.args.slots.now.items in
    let owner : ℕ = c.args.spot.owner in
    let lt : owner < length ws = omega (arith, c.requires.owner, length-seen b g.W.Watched.watches c.args.slots.now.items) in
    let here = slot_is b g.W.Watched.watches c.turn.new.slots.items owner c.index-slot.result.now ws lt c.in-Forces.ensures.turned.0 c.index-slot.ensures in
    reasons_of ws owner c.in-Some.id (b c.index-slot.result.now.watch) c.args.trail.now.made c.push_forced.new.trail.made lt (ap (λ (w : Watching). w.id) here ∙ c.in-Some.is) (ap (λ (w : Watching). w.c) here) c.push_forced.ensures.reasons

pub returns-else-push_forced-clause-reasons : goal.returns-else-push_forced-clause-reasons
returns-else-push_forced-clause-reasons g c =
    let b = g.W.Watched.bounded in
    let ws = seen_as b g.W.Watched.watches c.args.slots.now.items in
    let owner : ℕ = c.args.spot.owner in
    let lt : owner < length ws = omega (arith, c.requires.owner, length-seen b g.W.Watched.watches c.args.slots.now.items) in
    let here = slot_is b g.W.Watched.watches c.turn.new.slots.items owner c.index-slot.result.now ws lt c.in-Forces.ensures.turned.0 c.index-slot.ensures in
    reasons_of ws owner c.in-Some.id (b c.index-slot.result.now.watch) c.args.trail.now.made c.push_forced.new.trail.made lt (ap (λ (w : Watching). w.id) here ∙ c.in-Some.is) (ap (λ (w : Watching). w.c) here) c.push_forced.ensures.reasons
