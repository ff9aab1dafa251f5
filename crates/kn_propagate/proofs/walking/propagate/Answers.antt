use Rattle.std.proofs.Common.{◌≡◌, ℕ, ◌<◌, ◌≤◌, ◌+◌, ◌*◌, List, length, take, sym, ap, ◌∙◌, subst, arith}
use Rattle.std.specs.Prelude.{slice_index_or, slice_set}
use Rattle.kn_logic.specs.Literals.{negated}
use Rattle.kn_watch.specs.Trails.{literals, lit_of}
use Rattle.kn_propagate.specs.Chains.{seen_as, code, hand_of, AreKept, IsWalking, AreSpared}
use Rattle.kn_propagate.proofs.Lifting.{lift_walking}
use Rattle.kn_propagate.proofs.Resting.{grown_same}
use Rattle.kn_propagate.proofs.Reasons.{reasons_none, reasons_trans, reasons_same}
use Rattle.kn_propagate.proofs.Sparing.{spared_same, spared_trans, spared_walk}
use Rattle.kn_propagate.proofs.Walks.{same_refl, walking_at, grown_trans, known_at, code_known, same_trans, fresh_next, fresh_same, grown_long, made_few}
use Rattle.kn_propagate.proofs.walking.propagate.Goals as goal

pub loop-visited-init : goal.loop-visited-init
loop-visited-init g c = record {
  sized = c.requires.sized;
  kept = c.requires.kept;
  same = same_refl (seen_as g.W.Watched.bounded g.W.Watched.watches c.args.slots.now.items);
  present = grown_same c.args.trail.now c.requires.fresh.trail;
  reasons = reasons_none (seen_as g.W.Watched.bounded g.W.Watched.watches c.args.slots.now.items) c.args.trail.now.made;
  spared = spared_same (length (seen_as g.W.Watched.bounded g.W.Watched.watches c.args.slots.now.items)) c.args.chains.now;
  visited = c.requires.visited;
  fresh = c.requires.fresh;
  idle = c.requires.idle;
}

pub walk-requires-clause-walking : goal.walk-requires-clause-walking
walk-requires-clause-walking g c =
    let inv = c.loop-visited.invariant in
    let lt : c.loop-visited.visited < length c.loop-visited.trail.made = omega (arith, c.len.ensures.value) in
    let fq : c.code-from.result ≡ (code (negated (lit_of c.loop-visited.trail.made c.loop-visited.visited))) = c.code-from.ensures ∙ ap code (c.negated.ensures ∙ ap negated c.at.ensures) in
    let known = known_at c.loop-visited.trail.vars c.loop-visited.trail.made c.loop-visited.visited inv.fresh.trail.known lt in
    let sized : length c.loop-visited.chains.heads ≡ 2 * c.loop-visited.trail.vars + 3 = inv.sized ∙ ap (λ (n : ℕ). 2 * n + 3) (sym inv.present.vars) in
    let fh = code_known c.loop-visited.trail.vars c.loop-visited.chains.heads (negated (lit_of c.loop-visited.trail.made c.loop-visited.visited)) known sized in
    let hq = subst (λ (n : ℕ). c.lift.new.self.heads ≡ slice_set (slice_set c.loop-visited.chains.heads (hand_of c.loop-visited.chains.heads) (slice_index_or c.loop-visited.chains.heads n 0)) n 0) fq c.lift.ensures.heads in
    walking_at c.loop-visited.trail.made (take c.loop-visited.visited (literals c.loop-visited.trail.made)) (seen_as g.W.Watched.bounded g.W.Watched.watches c.loop-visited.slots.items) c.loop-visited.chains.spots c.lift.new.self.spots c.lift.new.self.nexts c.lift.new.self.heads (code (negated (lit_of c.loop-visited.trail.made c.loop-visited.visited))) c.lift.ensures.spots (subst (λ (x : List ℕ). IsWalking c.loop-visited.trail.made (take c.loop-visited.visited (literals c.loop-visited.trail.made)) (seen_as g.W.Watched.bounded g.W.Watched.watches c.loop-visited.slots.items) c.loop-visited.chains.spots x c.lift.new.self.heads (code (negated (lit_of c.loop-visited.trail.made c.loop-visited.visited)))) (sym c.lift.ensures.nexts)
    (lift_walking c.loop-visited.trail.made (take c.loop-visited.visited (literals c.loop-visited.trail.made)) (seen_as g.W.Watched.bounded g.W.Watched.watches c.loop-visited.slots.items) c.loop-visited.chains.spots c.loop-visited.chains.nexts c.loop-visited.chains.heads c.lift.new.self.heads (code (negated (lit_of c.loop-visited.trail.made c.loop-visited.visited))) inv.idle fh hq))

pub returns-in-Some-clause-reasons : goal.returns-in-Some-clause-reasons
returns-in-Some-clause-reasons g c =
    let inv = c.loop-visited.invariant in
    let after = c.in-Some.ensures in
    reasons_trans (seen_as g.W.Watched.bounded g.W.Watched.watches c.args.slots.now.items) c.args.trail.now.made c.loop-visited.trail c.walk.new.trail after.present inv.reasons (reasons_same (seen_as g.W.Watched.bounded g.W.Watched.watches c.args.slots.now.items) (seen_as g.W.Watched.bounded g.W.Watched.watches c.loop-visited.slots.items) c.loop-visited.trail.made c.walk.new.trail.made inv.same after.reasons)

pub returns-in-Some-clause-spared : goal.returns-in-Some-clause-spared
returns-in-Some-clause-spared g c =
    let inv = c.loop-visited.invariant in
    let after = c.in-Some.ensures in
    let ws2 = seen_as g.W.Watched.bounded g.W.Watched.watches c.walk.new.slots.items in
    let walked = spared_walk (seen_as g.W.Watched.bounded g.W.Watched.watches c.args.slots.now.items) (seen_as g.W.Watched.bounded g.W.Watched.watches c.loop-visited.slots.items) c.args.chains.now c.loop-visited.chains c.lift.new.self c.walk.new.chains inv.same inv.spared c.lift.ensures.spots c.lift.ensures.nexts c.lift.ensures.spare after.spared in
    spared_trans (length (seen_as g.W.Watched.bounded g.W.Watched.watches c.args.slots.now.items)) c.args.chains.now c.walk.new.chains c.restore.new.chains walked (subst (λ (n : ℕ). AreSpared n c.walk.new.chains c.restore.new.chains) (after.same.long ∙ inv.same.long) c.restore.ensures.spared)

pub restore-requires-clause-from : goal.restore-requires-clause-from
restore-requires-clause-from g c =
    let inv = c.loop-visited.invariant in
    let lt : c.loop-visited.visited < length c.loop-visited.trail.made = omega (arith, c.len.ensures.value) in
    let fq : c.code-from.result ≡ (code (negated (lit_of c.loop-visited.trail.made c.loop-visited.visited))) = c.code-from.ensures ∙ ap code (c.negated.ensures ∙ ap negated c.at.ensures) in
    let known = known_at c.loop-visited.trail.vars c.loop-visited.trail.made c.loop-visited.visited inv.fresh.trail.known lt in
    let sized : length c.walk.new.chains.heads ≡ 2 * c.loop-visited.trail.vars + 3 = c.in-Some.ensures.sized in
    let fh = code_known c.loop-visited.trail.vars c.walk.new.chains.heads (negated (lit_of c.loop-visited.trail.made c.loop-visited.visited)) known sized in
    subst (λ (n : ℕ). n < hand_of c.walk.new.chains.heads) (sym fq) fh

pub returns-in-Some-clause-fresh : goal.returns-in-Some-clause-fresh
returns-in-Some-clause-fresh g c =
    let inv = c.loop-visited.invariant in
    let lt : c.loop-visited.visited < length c.loop-visited.trail.made = omega (arith, c.len.ensures.value) in
    fresh_same c.loop-visited.trail c.walk.new.trail c.loop-visited.visited inv.fresh c.in-Some.ensures.present lt

pub loop-visited-smaller : goal.loop-visited-smaller
loop-visited-smaller g c =
    let inv = c.loop-visited.invariant in
    let lt : c.loop-visited.visited < length c.loop-visited.trail.made = omega (arith, c.len.ensures.value) in
    let few = made_few c.loop-visited.trail inv.fresh.trail in
    omega (arith, lt, few, inv.present.vars)

pub loop-visited-preserved : goal.loop-visited-preserved
loop-visited-preserved g c =
    let inv = c.loop-visited.invariant in
    let lt : c.loop-visited.visited < length c.loop-visited.trail.made = omega (arith, c.len.ensures.value) in
    let after = c.in_default.ensures in
    record {
      sized = after.sized ∙ ap (λ (n : ℕ). 2 * n + 3) inv.present.vars;
      kept = subst (λ (n : ℕ). AreKept n (seen_as g.W.Watched.bounded g.W.Watched.watches c.walk.new.slots.items)) inv.present.vars after.kept;
      same = same_trans (seen_as g.W.Watched.bounded g.W.Watched.watches c.args.slots.now.items) (seen_as g.W.Watched.bounded g.W.Watched.watches c.loop-visited.slots.items) (seen_as g.W.Watched.bounded g.W.Watched.watches c.walk.new.slots.items) inv.same after.same;
      reasons = reasons_trans (seen_as g.W.Watched.bounded g.W.Watched.watches c.args.slots.now.items) c.args.trail.now.made c.loop-visited.trail c.walk.new.trail after.present inv.reasons (reasons_same (seen_as g.W.Watched.bounded g.W.Watched.watches c.args.slots.now.items) (seen_as g.W.Watched.bounded g.W.Watched.watches c.loop-visited.slots.items) c.loop-visited.trail.made c.walk.new.trail.made inv.same after.reasons);
      spared = spared_walk (seen_as g.W.Watched.bounded g.W.Watched.watches c.args.slots.now.items) (seen_as g.W.Watched.bounded g.W.Watched.watches c.loop-visited.slots.items) c.args.chains.now c.loop-visited.chains c.lift.new.self c.walk.new.chains inv.same inv.spared c.lift.ensures.spots c.lift.ensures.nexts c.lift.ensures.spare after.spared;
      present = grown_trans c.args.trail.now c.loop-visited.trail c.walk.new.trail inv.present after.present;
      visited = omega (arith, lt, grown_long c.loop-visited.trail c.walk.new.trail after.present);
      fresh = fresh_next c.loop-visited.trail c.walk.new.trail c.loop-visited.visited inv.fresh after.present lt;
      idle = record { from = (code (negated (lit_of c.loop-visited.trail.made c.loop-visited.visited))); stopped = after.done; empty = after.empty };
    }

pub returns-clause-all : goal.returns-clause-all
returns-clause-all g c =
    let done : c.len.result ≤ c.loop-visited.visited = c.loop-visited-test.false in
    subst (λ (n : ℕ). n ≤ c.loop-visited.visited) c.len.ensures.value done
