use Rattle.std.proofs.Common.{◌<◌, length, sym, ap, ◌∙◌, subst, arith}
use Rattle.kn_logic.specs.Constraints.{Bounded, IsWithin}
use Rattle.kn_logic.specs.Propagation.{IsShort}
use Rattle.kn_watch.specs.Trails.{literals}
use Rattle.kn_watch.specs.Watches.{listed}
use Rattle.kn_watch.proofs.Public.{satisfied_quiet, consistent_of}
use Rattle.kn_propagate.specs.Chains.{Watching, seen_as}
use Rattle.kn_propagate.proofs.Turning.{length-seen, seen_here}
use Rattle.kn_propagate.proofs.Reasons.{reasons_none, reasons_of}
use Rattle.kn_propagate.proofs.Looking.{quiet_look}
use Rattle.kn_propagate.proofs.settling.look_at.Goals as goal

pub unreachable-requires : goal.unreachable-requires
unreachable-requires g c =
    let b = g.W.Watched.bounded in
    let slots = c.args.slots.now.items in
    let lt : c.args.owner < length slots = omega (arith, c.requires.owner, length-seen b g.W.Watched.watches slots) in
    let here = seen_here b g.W.Watched.watches slots c.args.owner c.index-slot.result.now lt c.index-slot.ensures in
    let none = sym (ap (λ (w : Watching). w.c) here) ∙ (c.requires.kept c.args.owner c.requires.owner).free (ap (λ (w : Watching). w.id) here ∙ c.in_default.is) in
    let f = c.in-Forces.ensures in
    omega (arith, f.1, ap (λ (x : Bounded). length (listed x)) none)

pub push_forced-requires-clause-known : goal.push_forced-requires-clause-known
push_forced-requires-clause-known g c =
    let b = g.W.Watched.bounded in
    let slots = c.args.slots.now.items in
    let lt : c.args.owner < length slots = omega (arith, c.requires.owner, length-seen b g.W.Watched.watches slots) in
    let here = seen_here b g.W.Watched.watches slots c.args.owner c.index-slot.result.now lt c.index-slot.ensures in
    subst (IsWithin c.args.trail.now.vars) (ap (λ (w : Watching). w.c) here) (c.requires.kept c.args.owner c.requires.owner).within

pub returns-in-Quiet-clause-reasons : goal.returns-in-Quiet-clause-reasons
returns-in-Quiet-clause-reasons g c = reasons_none (seen_as g.W.Watched.bounded g.W.Watched.watches c.args.slots.now.items) c.args.trail.now.made

pub returns-in-Quiet-clause-quiet : goal.returns-in-Quiet-clause-quiet
returns-in-Quiet-clause-quiet g c h short =
    let b = g.W.Watched.bounded in
    let slots = c.args.slots.now.items in
    let lt : c.args.owner < length slots = omega (arith, c.requires.owner, length-seen b g.W.Watched.watches slots) in
    let here = seen_here b g.W.Watched.watches slots c.args.owner c.index-slot.result.now lt c.index-slot.ensures in
    quiet_look (literals c.args.trail.now.made) (b c.index-slot.result.now.watch) c.in-Quiet.ensures (subst (IsShort (literals c.args.trail.now.made)) (ap (λ (w : Watching). w.c) here) short)

pub returns-in-Conflict-clause-reasons : goal.returns-in-Conflict-clause-reasons
returns-in-Conflict-clause-reasons g c = reasons_none (seen_as g.W.Watched.bounded g.W.Watched.watches c.args.slots.now.items) c.args.trail.now.made

pub returns-in-Some-clause-reasons : goal.returns-in-Some-clause-reasons
returns-in-Some-clause-reasons g c =
    let b = g.W.Watched.bounded in
    let slots = c.args.slots.now.items in
    let lt : c.args.owner < length slots = omega (arith, c.requires.owner, length-seen b g.W.Watched.watches slots) in
    let here = seen_here b g.W.Watched.watches slots c.args.owner c.index-slot.result.now lt c.index-slot.ensures in
    reasons_of (seen_as b g.W.Watched.watches slots) c.args.owner c.in-Some.id (b c.index-slot.result.now.watch) c.args.trail.now.made c.push_forced.new.trail.made c.requires.owner (ap (λ (w : Watching). w.id) here ∙ c.in-Some.is) (ap (λ (w : Watching). w.c) here) c.push_forced.ensures.reasons

pub returns-in-Some-clause-quiet : goal.returns-in-Some-clause-quiet
returns-in-Some-clause-quiet g c h short =
    let b = g.W.Watched.bounded in
    let slots = c.args.slots.now.items in
    let lt : c.args.owner < length slots = omega (arith, c.requires.owner, length-seen b g.W.Watched.watches slots) in
    let here = seen_here b g.W.Watched.watches slots c.args.owner c.index-slot.result.now lt c.index-slot.ensures in
    satisfied_quiet (literals c.push_forced.new.trail.made) (b c.index-slot.result.now.watch) (consistent_of c.push_forced.new.trail c.push_forced.ensures.present.kept) (c.push_forced.ensures.satisfied h) (subst (IsShort (literals c.push_forced.new.trail.made)) (ap (λ (w : Watching). w.c) here) short)
