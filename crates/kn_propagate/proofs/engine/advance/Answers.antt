use Rattle.std.proofs.Common.{◌≤◌, ℕ, List, length, sym, subst}
use Rattle.kn_watch.specs.Trails.{literals}
use Rattle.kn_propagate.specs.Chains.{seen_as, AreSettled}
use Rattle.kn_propagate.specs.Wholes.{IsTabled}
use Rattle.kn_propagate.proofs.Reasons.{reasons_trans}
use Rattle.kn_propagate.proofs.Engined.{if_none}
use Rattle.kn_propagate.proofs.Advancing.{tabled_grows, tabled_settled, idle_of, tabled_walked, quiet_all}
use Rattle.kn_propagate.proofs.engine.advance.Goals as goal

pub returns-in-Some-clause-tabled : goal.returns-in-Some-clause-tabled
returns-in-Some-clause-tabled g c =
    tabled_grows c.args.trail.now c.settle.new.trail (seen_as g.W.Watched.bounded g.W.Watched.watches c.args.slots.now.items) c.args.chains.now c.args.visited.now c.args.pending.now.items c.requires c.settle.ensures.present c.settle.ensures.reasons

pub propagate-requires-clause-fresh : goal.propagate-requires-clause-fresh
propagate-requires-clause-fresh g c =
    (tabled_grows c.args.trail.now c.settle.new.trail (seen_as g.W.Watched.bounded g.W.Watched.watches c.args.slots.now.items) c.args.chains.now c.args.visited.now c.args.pending.now.items c.requires c.settle.ensures.present c.settle.ensures.reasons).fresh

pub propagate-requires-clause-idle : goal.propagate-requires-clause-idle
propagate-requires-clause-idle g c =
    let ws = seen_as g.W.Watched.bounded g.W.Watched.watches c.args.slots.now.items in
    let settled = subst (λ (x : List ℕ). AreSettled (literals c.args.trail.now.made) (literals c.settle.new.trail.made) ws x) c.deref.ensures.value c.in_default.ensures.settled in
    idle_of c.settle.new.trail ws c.args.chains.now c.args.visited.now (tabled_settled c.args.trail.now c.settle.new.trail ws c.args.chains.now c.args.visited.now c.args.pending.now.items c.requires c.settle.ensures.present c.settle.ensures.reasons settled)

pub returns-clause-tabled : goal.returns-clause-tabled
returns-clause-tabled g c =
    let ws = seen_as g.W.Watched.bounded g.W.Watched.watches c.args.slots.now.items in
    let new = seen_as g.W.Watched.bounded g.W.Watched.watches c.propagate.new.slots.items in
    let settled = subst (λ (x : List ℕ). AreSettled (literals c.args.trail.now.made) (literals c.settle.new.trail.made) ws x) c.deref.ensures.value c.in_default.ensures.settled in
    let before = tabled_settled c.args.trail.now c.settle.new.trail ws c.args.chains.now c.args.visited.now c.args.pending.now.items c.requires c.settle.ensures.present c.settle.ensures.reasons settled in
    let e = c.propagate.ensures in
    subst (λ (x : List ℕ). IsTabled c.propagate.new.trail new c.propagate.new.chains c.propagate.new.visited x) (sym c.clear.ensures.items)
    (tabled_walked c.settle.new.trail c.propagate.new.trail ws new c.args.chains.now c.propagate.new.chains c.args.visited.now c.propagate.new.visited before e.sized e.kept e.same e.present e.reasons e.spared e.visited e.fresh e.idle)

pub returns-clause-reasons : goal.returns-clause-reasons
returns-clause-reasons g c =
    reasons_trans (seen_as g.W.Watched.bounded g.W.Watched.watches c.args.slots.now.items) c.args.trail.now.made c.settle.new.trail c.propagate.new.trail c.propagate.ensures.present c.settle.ensures.reasons c.propagate.ensures.reasons

pub returns-clause-quiet : goal.returns-clause-quiet
returns-clause-quiet g c =
    let ws = seen_as g.W.Watched.bounded g.W.Watched.watches c.args.slots.now.items in
    let new = seen_as g.W.Watched.bounded g.W.Watched.watches c.propagate.new.slots.items in
    let settled = subst (λ (x : List ℕ). AreSettled (literals c.args.trail.now.made) (literals c.settle.new.trail.made) ws x) c.deref.ensures.value c.in_default.ensures.settled in
    let before = tabled_settled c.args.trail.now c.settle.new.trail ws c.args.chains.now c.args.visited.now c.args.pending.now.items c.requires c.settle.ensures.present c.settle.ensures.reasons settled in
    let e = c.propagate.ensures in
    let after = tabled_walked c.settle.new.trail c.propagate.new.trail ws new c.args.chains.now c.propagate.new.chains c.args.visited.now c.propagate.new.visited before e.sized e.kept e.same e.present e.reasons e.spared e.visited e.fresh e.idle in
    if_none c.propagate.result _ _ (λ (le : length c.propagate.new.trail.made ≤ c.propagate.new.visited). quiet_all c.propagate.new.trail new c.propagate.new.chains c.propagate.new.visited after le) e.all
