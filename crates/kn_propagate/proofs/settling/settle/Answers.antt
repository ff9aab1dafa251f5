use Rattle.std.proofs.Common.{◌<◌, length, arith}
use Rattle.kn_propagate.specs.Chains.{seen_as}
use Rattle.kn_propagate.proofs.Resting.{grown_same}
use Rattle.kn_propagate.proofs.Walks.{grown_trans}
use Rattle.kn_propagate.proofs.Reasons.{reasons_none, reasons_trans}
use Rattle.kn_propagate.proofs.Looking.{in_at, settled_step}
use Rattle.kn_propagate.proofs.settling.settle.Goals as goal

pub loop-slot-init : goal.loop-slot-init
loop-slot-init g c = record {
  present = grown_same c.args.trail.now c.requires.trail;
  reasons = reasons_none (seen_as g.W.Watched.bounded g.W.Watched.watches c.args.slots.now.items) c.args.trail.now.made;
  settled = λ slot i le. absurd cc;
}

pub look_at-requires-clause-owner : goal.look_at-requires-clause-owner
look_at-requires-clause-owner g c =
    let lt : c.loop-slot.slot-index < length c.args.pending.now = omega (arith, c.loop-slot-test.true, c.loop-slot.auto.slot-index-end) in
    c.requires.due _ (in_at c.args.pending.now c.loop-slot.slot-index lt)

pub returns-then-not-look_at-clause-reasons : goal.returns-then-not-look_at-clause-reasons
returns-then-not-look_at-clause-reasons g c =
    reasons_trans (seen_as g.W.Watched.bounded g.W.Watched.watches c.args.slots.now.items) c.args.trail.now.made c.loop-slot.trail c.look_at.new.trail c.look_at.ensures.present c.loop-slot.invariant.reasons c.look_at.ensures.reasons

pub loop-slot-preserved : goal.loop-slot-preserved
loop-slot-preserved g c =
    let inv = c.loop-slot.invariant in
    let ws = seen_as g.W.Watched.bounded g.W.Watched.watches c.args.slots.now.items in
    let lt : c.loop-slot.slot-index < length c.args.pending.now = omega (arith, c.loop-slot-test.true, c.loop-slot.auto.slot-index-end) in
    let all = grown_trans c.args.trail.now c.loop-slot.trail c.look_at.new.trail inv.present c.look_at.ensures.present in
    record {
      present = all;
      reasons = reasons_trans ws c.args.trail.now.made c.loop-slot.trail c.look_at.new.trail c.look_at.ensures.present inv.reasons c.look_at.ensures.reasons;
      settled = settled_step ws c.args.pending.now c.loop-slot.slot-index c.args.trail.now c.loop-slot.trail c.look_at.new.trail lt inv.present c.look_at.ensures.present all (c.look_at.ensures.quiet (grind (arith))) inv.settled;
    }
