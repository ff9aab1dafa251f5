use Rattle.std.proofs.Common.{◌≡◌, ℕ, ◌<◌, ◌*◌, ◌+◌, ◌++◌, ◌∷◌, [], List, length, take, sym, ap, ◌∙◌, subst, arith}
use Rattle.std.specs.Prelude.{slice_index_or, slice_set}
use Rattle.std.proofs.lemmas.Grind.{common_steps}
use Rattle.kn_logic.specs.Constraints.{Bounded}
use Rattle.kn_logic.specs.Literals.{Literal, negated}
use Rattle.kn_propagate.specs.declared.chains.Spot.{Spot}
use Rattle.kn_watch.specs.Trails.{literals, lit_of}
use Rattle.kn_watch.specs.Watches.{listed, lit_at, IsConflicting}
use Rattle.kn_propagate.specs.Chains.{Watching, seen_as, at_slot, lit_of_spot, code, spot_at, AreKept, IsStopped, hand_of}
use Rattle.kn_propagate.proofs.Relinking.{a_spot}
use Rattle.kn_watch.proofs.Public.{all_within_grown}
use Rattle.kn_propagate.proofs.Resting.{grown_same}
use Rattle.kn_propagate.proofs.Turning.{length-seen}
use Rattle.kn_propagate.proofs.Steps.{numbered, entry_is, head_within, is_false, has_at, step_done}
use Rattle.kn_propagate.proofs.Reasons.{reasons_none, reasons_trans, reasons_same}
use Rattle.kn_propagate.proofs.Sparing.{spared_same, spared_lay, spared_place}
use Rattle.kn_propagate.proofs.Walks.{same_refl, walking_at, stopped_at, grown_trans, known_at, code_known, walk_stays, walk_moves, walk_stops, walk_less, long_kept, long_drawn, same_trans, listed_known, take_grown, take_next}
use Rattle.kn_propagate.proofs.walking.walk.Goals as goal

pub code-from-requires : goal.code-from-requires
code-from-requires g c =
    let known = known_at c.args.trail.now.vars c.args.trail.now.made c.args.visited c.requires.fresh.trail.known c.requires.visited in
    let v : c.negated.result.variable ≡ (lit_of c.args.trail.now.made c.args.visited).variable = ap (λ (l : Literal). l.variable) (c.negated.ensures ∙ ap negated c.at.ensures) in
    omega (arith, v, known.1, c.requires.small)

pub loop-entry-init : goal.loop-entry-init
loop-entry-init g c = record {
  sized = c.requires.sized;
  kept = c.requires.kept;
  same = same_refl (seen_as g.W.Watched.bounded g.W.Watched.watches c.args.slots.now.items);
  present = grown_same c.args.trail.now c.requires.fresh.trail;
  reasons = reasons_none (seen_as g.W.Watched.bounded g.W.Watched.watches c.args.slots.now.items) c.args.trail.now.made;
  spared = spared_same (length (seen_as g.W.Watched.bounded g.W.Watched.watches c.args.slots.now.items)) c.args.chains.now;
  walking = c.requires.walking;
}

pub draw-requires-clause-head : goal.draw-requires-clause-head
draw-requires-clause-head g c =
    let inv = c.loop-entry.invariant in
    let w = inv.walking in
    head_within (seen_as g.W.Watched.bounded g.W.Watched.watches c.loop-entry.slots.items) c.loop-entry.chains.spots c.loop-entry.chains.nexts c.loop-entry.chains.heads (code (negated (lit_of c.args.trail.now.made c.args.visited))) w.chain w.home w.wired

pub spot-spot-requires : goal.spot-spot-requires
spot-spot-requires g c =
    let inv = c.loop-entry.invariant in
    let w = inv.walking in
    let n = numbered (seen_as g.W.Watched.bounded g.W.Watched.watches c.loop-entry.slots.items) c.loop-entry.chains.spots c.loop-entry.chains.nexts c.loop-entry.chains.heads c.draw.new.self.heads (code (negated (lit_of c.args.trail.now.made c.args.visited))) w.chain w.home c.in-Some.entry w.wired c.in-Some.ensures.drawn in
    grind (arith, common_steps)

pub visit-requires-clause-owner : goal.visit-requires-clause-owner
visit-requires-clause-owner g c =
    let inv = c.loop-entry.invariant in
    let w = inv.walking in
    let e = entry_is (seen_as g.W.Watched.bounded g.W.Watched.watches c.loop-entry.slots.items) c.loop-entry.chains.spots c.loop-entry.chains.nexts c.loop-entry.chains.heads c.draw.new.self.heads (code (negated (lit_of c.args.trail.now.made c.args.visited))) w.chain w.home c.in-Some.entry c.spot-spot.result w.wired c.in-Some.ensures.drawn (c.spot-spot.ensures ∙ ap (λ (x : List Spot). spot_at x c.in-Some.entry) c.in-Some.ensures.spots) in
    omega (arith, e.owned, length-seen g.W.Watched.bounded g.W.Watched.watches c.loop-entry.slots.items)

pub visit-requires-clause-place : goal.visit-requires-clause-place
visit-requires-clause-place g c =
    let inv = c.loop-entry.invariant in
    let w = inv.walking in
    let e = entry_is (seen_as g.W.Watched.bounded g.W.Watched.watches c.loop-entry.slots.items) c.loop-entry.chains.spots c.loop-entry.chains.nexts c.loop-entry.chains.heads c.draw.new.self.heads (code (negated (lit_of c.args.trail.now.made c.args.visited))) w.chain w.home c.in-Some.entry c.spot-spot.result w.wired c.in-Some.ensures.drawn (c.spot-spot.ensures ∙ ap (λ (x : List Spot). spot_at x c.in-Some.entry) c.in-Some.ensures.spots) in
    e.placed

pub visit-requires-clause-watched : goal.visit-requires-clause-watched
visit-requires-clause-watched g c =
    let inv = c.loop-entry.invariant in
    let w = inv.walking in
    let e = entry_is (seen_as g.W.Watched.bounded g.W.Watched.watches c.loop-entry.slots.items) c.loop-entry.chains.spots c.loop-entry.chains.nexts c.loop-entry.chains.heads c.draw.new.self.heads (code (negated (lit_of c.args.trail.now.made c.args.visited))) w.chain w.home c.in-Some.entry c.spot-spot.result w.wired c.in-Some.ensures.drawn (c.spot-spot.ensures ∙ ap (λ (x : List Spot). spot_at x c.in-Some.entry) c.in-Some.ensures.spots) in
    e.watched

pub visit-requires-clause-is_false : goal.visit-requires-clause-is_false
visit-requires-clause-is_false g c =
    let inv = c.loop-entry.invariant in
    let w = inv.walking in
    let e = entry_is (seen_as g.W.Watched.bounded g.W.Watched.watches c.loop-entry.slots.items) c.loop-entry.chains.spots c.loop-entry.chains.nexts c.loop-entry.chains.heads c.draw.new.self.heads (code (negated (lit_of c.args.trail.now.made c.args.visited))) w.chain w.home c.in-Some.entry c.spot-spot.result w.wired c.in-Some.ensures.drawn (c.spot-spot.ensures ∙ ap (λ (x : List Spot). spot_at x c.in-Some.entry) c.in-Some.ensures.spots) in
    is_false (literals c.loop-entry.trail.made) (lit_of c.args.trail.now.made c.args.visited) (lit_of_spot (seen_as g.W.Watched.bounded g.W.Watched.watches c.loop-entry.slots.items) c.spot-spot.result) e.coded (all_within_grown c.args.trail.now.level c.args.trail.now.made c.loop-entry.trail.made inv.present.grows (lit_of c.args.trail.now.made c.args.visited) (has_at c.args.trail.now.made c.args.visited c.requires.visited))

pub lay-requires-clause-entry : goal.lay-requires-clause-entry
lay-requires-clause-entry g c =
    let inv = c.loop-entry.invariant in
    let w = inv.walking in
    let e = entry_is (seen_as g.W.Watched.bounded g.W.Watched.watches c.loop-entry.slots.items) c.loop-entry.chains.spots c.loop-entry.chains.nexts c.loop-entry.chains.heads c.draw.new.self.heads (code (negated (lit_of c.args.trail.now.made c.args.visited))) w.chain w.home c.in-Some.entry c.spot-spot.result w.wired c.in-Some.ensures.drawn (c.spot-spot.ensures ∙ ap (λ (x : List Spot). spot_at x c.in-Some.entry) c.in-Some.ensures.spots) in
    omega (arith, e.inside, ap (λ (xs : List ℕ). length xs) c.in-Some.ensures.nexts)

pub lay_at-requires-clause-entry : goal.lay_at-requires-clause-entry
lay_at-requires-clause-entry g c =
    let inv = c.loop-entry.invariant in
    let w = inv.walking in
    let e = entry_is (seen_as g.W.Watched.bounded g.W.Watched.watches c.loop-entry.slots.items) c.loop-entry.chains.spots c.loop-entry.chains.nexts c.loop-entry.chains.heads c.draw.new.self.heads (code (negated (lit_of c.args.trail.now.made c.args.visited))) w.chain w.home c.in-Some.entry c.spot-spot.result w.wired c.in-Some.ensures.drawn (c.spot-spot.ensures ∙ ap (λ (x : List Spot). spot_at x c.in-Some.entry) c.in-Some.ensures.spots) in
    omega (arith, e.inside, ap (λ (xs : List ℕ). length xs) c.in-Some.ensures.nexts)

pub lay-requires-in-Conflict-clause-entry : goal.lay-requires-in-Conflict-clause-entry
lay-requires-in-Conflict-clause-entry g c =
    let inv = c.loop-entry.invariant in
    let w = inv.walking in
    let e = entry_is (seen_as g.W.Watched.bounded g.W.Watched.watches c.loop-entry.slots.items) c.loop-entry.chains.spots c.loop-entry.chains.nexts c.loop-entry.chains.heads c.draw.new.self.heads (code (negated (lit_of c.args.trail.now.made c.args.visited))) w.chain w.home c.in-Some.entry c.spot-spot.result w.wired c.in-Some.ensures.drawn (c.spot-spot.ensures ∙ ap (λ (x : List Spot). spot_at x c.in-Some.entry) c.in-Some.ensures.spots) in
    omega (arith, e.inside, ap (λ (xs : List ℕ). length xs) c.in-Some.ensures.nexts)

pub loop-entry-smaller-in-Stays : goal.loop-entry-smaller-in-Stays
loop-entry-smaller-in-Stays g c =
    let inv = c.loop-entry.invariant in
    let w = inv.walking in
    let fq : c.code-from.result ≡ (code (negated (lit_of c.args.trail.now.made c.args.visited))) = c.code-from.ensures ∙ ap code (c.negated.ensures ∙ ap negated c.at.ensures) in
    let known = known_at c.args.trail.now.vars c.args.trail.now.made c.args.visited c.requires.fresh.trail.known c.requires.visited in
    let fh = code_known c.args.trail.now.vars c.loop-entry.chains.heads (negated (lit_of c.args.trail.now.made c.args.visited)) known inv.sized in
    let nq = subst (λ (n : ℕ). c.lay.new.self.nexts ≡ slice_set c.draw.new.self.nexts c.in-Some.entry (slice_index_or c.draw.new.self.heads n 0)) fq c.lay.ensures.nexts in
    let hq = subst (λ (n : ℕ). c.lay.new.self.heads ≡ slice_set c.draw.new.self.heads n (c.in-Some.entry + 1)) fq c.lay.ensures.heads in
    walk_less (seen_as g.W.Watched.bounded g.W.Watched.watches c.loop-entry.slots.items) c.loop-entry.chains.spots c.loop-entry.chains.nexts c.loop-entry.chains.heads c.draw.new.self.nexts c.draw.new.self.heads c.lay.new.self.nexts c.lay.new.self.heads (code (negated (lit_of c.args.trail.now.made c.args.visited))) (code (negated (lit_of c.args.trail.now.made c.args.visited))) w.chain w.home c.in-Some.entry w.wired c.in-Some.ensures.drawn fh c.in-Some.ensures.nexts nq hq

pub loop-entry-preserved-in-Stays : goal.loop-entry-preserved-in-Stays
loop-entry-preserved-in-Stays g c =
    let inv = c.loop-entry.invariant in
    let w = inv.walking in
    let e = entry_is (seen_as g.W.Watched.bounded g.W.Watched.watches c.loop-entry.slots.items) c.loop-entry.chains.spots c.loop-entry.chains.nexts c.loop-entry.chains.heads c.draw.new.self.heads (code (negated (lit_of c.args.trail.now.made c.args.visited))) w.chain w.home c.in-Some.entry c.spot-spot.result w.wired c.in-Some.ensures.drawn (c.spot-spot.ensures ∙ ap (λ (x : List Spot). spot_at x c.in-Some.entry) c.in-Some.ensures.spots) in
    let fq : c.code-from.result ≡ (code (negated (lit_of c.args.trail.now.made c.args.visited))) = c.code-from.ensures ∙ ap code (c.negated.ensures ∙ ap negated c.at.ensures) in
    let known = known_at c.args.trail.now.vars c.args.trail.now.made c.args.visited c.requires.fresh.trail.known c.requires.visited in
    let fh = code_known c.args.trail.now.vars c.loop-entry.chains.heads (negated (lit_of c.args.trail.now.made c.args.visited)) known inv.sized in
    let nq = subst (λ (n : ℕ). c.lay.new.self.nexts ≡ slice_set c.draw.new.self.nexts c.in-Some.entry (slice_index_or c.draw.new.self.heads n 0)) fq c.lay.ensures.nexts in
    let hq = subst (λ (n : ℕ). c.lay.new.self.heads ≡ slice_set c.draw.new.self.heads n (c.in-Some.entry + 1)) fq c.lay.ensures.heads in
    record {
      sized = long_kept c.loop-entry.chains.nexts c.loop-entry.chains.heads c.draw.new.self.heads c.lay.new.self.heads c.code-from.result c.in-Some.entry (2 * c.args.trail.now.vars + 3) inv.sized c.in-Some.ensures.drawn c.lay.ensures.heads;
      kept = subst (λ (n : ℕ). AreKept n (seen_as g.W.Watched.bounded g.W.Watched.watches c.visit.new.slots.items)) inv.present.vars c.in-Stays.ensures.kept;
      same = same_trans (seen_as g.W.Watched.bounded g.W.Watched.watches c.args.slots.now.items) (seen_as g.W.Watched.bounded g.W.Watched.watches c.loop-entry.slots.items) (seen_as g.W.Watched.bounded g.W.Watched.watches c.visit.new.slots.items) inv.same c.in-Stays.ensures.same;
      present = grown_trans c.args.trail.now c.loop-entry.trail c.visit.new.trail inv.present c.in-Stays.ensures.present;
      reasons = reasons_trans (seen_as g.W.Watched.bounded g.W.Watched.watches c.args.slots.now.items) c.args.trail.now.made c.loop-entry.trail c.visit.new.trail c.in-Stays.ensures.present inv.reasons (reasons_same (seen_as g.W.Watched.bounded g.W.Watched.watches c.args.slots.now.items) (seen_as g.W.Watched.bounded g.W.Watched.watches c.loop-entry.slots.items) c.loop-entry.trail.made c.visit.new.trail.made inv.same c.in-Stays.ensures.reasons);
      spared = spared_lay (length (seen_as g.W.Watched.bounded g.W.Watched.watches c.args.slots.now.items)) c.args.chains.now c.loop-entry.chains c.draw.new.self c.lay.new.self c.in-Some.entry _ inv.spared (omega (arith, e.owned, inv.same.long, ap (λ (z : Spot). z.owner) e.here)) c.in-Some.ensures.spots c.in-Some.ensures.nexts c.in-Some.ensures.spare c.lay.ensures.spots c.lay.ensures.nexts c.lay.ensures.spare;
      walking = walking_at c.visit.new.trail.made (take c.args.visited (literals c.args.trail.now.made)) (seen_as g.W.Watched.bounded g.W.Watched.watches c.visit.new.slots.items) c.loop-entry.chains.spots c.lay.new.self.spots c.lay.new.self.nexts c.lay.new.self.heads (code (negated (lit_of c.args.trail.now.made c.args.visited))) (c.lay.ensures.spots ∙ c.in-Some.ensures.spots) (walk_stays c.args.trail.now c.loop-entry.trail c.visit.new.trail c.args.visited (seen_as g.W.Watched.bounded g.W.Watched.watches c.loop-entry.slots.items) (seen_as g.W.Watched.bounded g.W.Watched.watches c.visit.new.slots.items) c.loop-entry.chains.spots c.loop-entry.chains.nexts c.loop-entry.chains.heads c.draw.new.self.nexts c.draw.new.self.heads c.lay.new.self.nexts c.lay.new.self.heads (code (negated (lit_of c.args.trail.now.made c.args.visited))) c.in-Some.entry c.spot-spot.result c.requires.fresh inv.present c.in-Stays.ensures.present w c.in-Some.ensures.drawn e c.in-Stays.ensures.visited.0 c.in-Stays.ensures.visited.1 fh c.in-Some.ensures.nexts nq hq);
    }

pub code_at-to-requires-clause-small : goal.code_at-to-requires-clause-small
code_at-to-requires-clause-small g c =
    let inv = c.loop-entry.invariant in
    let w = inv.walking in
    let e = entry_is (seen_as g.W.Watched.bounded g.W.Watched.watches c.loop-entry.slots.items) c.loop-entry.chains.spots c.loop-entry.chains.nexts c.loop-entry.chains.heads c.draw.new.self.heads (code (negated (lit_of c.args.trail.now.made c.args.visited))) w.chain w.home c.in-Some.entry c.spot-spot.result w.wired c.in-Some.ensures.drawn (c.spot-spot.ensures ∙ ap (λ (x : List Spot). spot_at x c.in-Some.entry) c.in-Some.ensures.spots) in
    let goes = c.in-Moved.ensures.visited.1 in
    let kept = (c.loop-entry.invariant.kept c.spot-spot.result.owner e.owned).within in
    let lk = listed_known c.args.trail.now.vars (at_slot (seen_as g.W.Watched.bounded g.W.Watched.watches c.loop-entry.slots.items) c.spot-spot.result.owner).c c.in-Moved.place kept goes.within in
    let kh = code_known c.args.trail.now.vars c.loop-entry.chains.heads (lit_of_spot (seen_as g.W.Watched.bounded g.W.Watched.watches c.loop-entry.slots.items) (a_spot c.spot-spot.result.owner c.in-Moved.place)) lk inv.sized in
    let same = goes.same c.spot-spot.result.owner in
    let v : (lit_at (listed (at_slot (seen_as g.W.Watched.bounded g.W.Watched.watches c.visit.new.slots.items) c.spot-spot.result.owner).c) c.in-Moved.place).variable ≡ (lit_of_spot (seen_as g.W.Watched.bounded g.W.Watched.watches c.loop-entry.slots.items) (a_spot c.spot-spot.result.owner c.in-Moved.place)).variable = ap (λ (b : Bounded). (lit_at (listed b) c.in-Moved.place).variable) same in
    omega (arith, v, lk.1, c.requires.small)

pub lay_at-requires-clause-chain : goal.lay_at-requires-clause-chain
lay_at-requires-clause-chain g c =
    let inv = c.loop-entry.invariant in
    let w = inv.walking in
    let e = entry_is (seen_as g.W.Watched.bounded g.W.Watched.watches c.loop-entry.slots.items) c.loop-entry.chains.spots c.loop-entry.chains.nexts c.loop-entry.chains.heads c.draw.new.self.heads (code (negated (lit_of c.args.trail.now.made c.args.visited))) w.chain w.home c.in-Some.entry c.spot-spot.result w.wired c.in-Some.ensures.drawn (c.spot-spot.ensures ∙ ap (λ (x : List Spot). spot_at x c.in-Some.entry) c.in-Some.ensures.spots) in
    let goes = c.in-Moved.ensures.visited.1 in
    let kept = (c.loop-entry.invariant.kept c.spot-spot.result.owner e.owned).within in
    let lk = listed_known c.args.trail.now.vars (at_slot (seen_as g.W.Watched.bounded g.W.Watched.watches c.loop-entry.slots.items) c.spot-spot.result.owner).c c.in-Moved.place kept goes.within in
    let kh = code_known c.args.trail.now.vars c.loop-entry.chains.heads (lit_of_spot (seen_as g.W.Watched.bounded g.W.Watched.watches c.loop-entry.slots.items) (a_spot c.spot-spot.result.owner c.in-Moved.place)) lk inv.sized in
    let same = goes.same c.spot-spot.result.owner in
    let kq : c.code_at-to.result ≡ code (lit_of_spot (seen_as g.W.Watched.bounded g.W.Watched.watches c.loop-entry.slots.items) (a_spot c.spot-spot.result.owner c.in-Moved.place)) = c.code_at-to.ensures ∙ ap (λ (b : Bounded). code (lit_at (listed b) c.in-Moved.place)) same in
    let kh2 = subst (λ (n : ℕ). n < hand_of c.loop-entry.chains.heads) (sym kq) kh in
    omega (arith, kh2, long_drawn c.loop-entry.chains.nexts c.loop-entry.chains.heads c.draw.new.self.heads c.in-Some.entry c.in-Some.ensures.drawn)

pub loop-entry-smaller : goal.loop-entry-smaller
loop-entry-smaller g c =
    let inv = c.loop-entry.invariant in
    let w = inv.walking in
    let e = entry_is (seen_as g.W.Watched.bounded g.W.Watched.watches c.loop-entry.slots.items) c.loop-entry.chains.spots c.loop-entry.chains.nexts c.loop-entry.chains.heads c.draw.new.self.heads (code (negated (lit_of c.args.trail.now.made c.args.visited))) w.chain w.home c.in-Some.entry c.spot-spot.result w.wired c.in-Some.ensures.drawn (c.spot-spot.ensures ∙ ap (λ (x : List Spot). spot_at x c.in-Some.entry) c.in-Some.ensures.spots) in
    let goes = c.in-Moved.ensures.visited.1 in
    let kept = (c.loop-entry.invariant.kept c.spot-spot.result.owner e.owned).within in
    let lk = listed_known c.args.trail.now.vars (at_slot (seen_as g.W.Watched.bounded g.W.Watched.watches c.loop-entry.slots.items) c.spot-spot.result.owner).c c.in-Moved.place kept goes.within in
    let kh = code_known c.args.trail.now.vars c.loop-entry.chains.heads (lit_of_spot (seen_as g.W.Watched.bounded g.W.Watched.watches c.loop-entry.slots.items) (a_spot c.spot-spot.result.owner c.in-Moved.place)) lk inv.sized in
    let same = goes.same c.spot-spot.result.owner in
    let kq : c.code_at-to.result ≡ code (lit_of_spot (seen_as g.W.Watched.bounded g.W.Watched.watches c.loop-entry.slots.items) (a_spot c.spot-spot.result.owner c.in-Moved.place)) = c.code_at-to.ensures ∙ ap (λ (b : Bounded). code (lit_at (listed b) c.in-Moved.place)) same in
    let kh2 = subst (λ (n : ℕ). n < hand_of c.loop-entry.chains.heads) (sym kq) kh in
    walk_less (seen_as g.W.Watched.bounded g.W.Watched.watches c.loop-entry.slots.items) c.loop-entry.chains.spots c.loop-entry.chains.nexts c.loop-entry.chains.heads c.draw.new.self.nexts c.draw.new.self.heads c.lay_at.new.self.nexts c.lay_at.new.self.heads (code (negated (lit_of c.args.trail.now.made c.args.visited))) c.code_at-to.result w.chain w.home c.in-Some.entry w.wired c.in-Some.ensures.drawn kh2 c.in-Some.ensures.nexts c.lay_at.ensures.nexts c.lay_at.ensures.heads

pub loop-entry-preserved : goal.loop-entry-preserved
loop-entry-preserved g c =
    let inv = c.loop-entry.invariant in
    let w = inv.walking in
    let e = entry_is (seen_as g.W.Watched.bounded g.W.Watched.watches c.loop-entry.slots.items) c.loop-entry.chains.spots c.loop-entry.chains.nexts c.loop-entry.chains.heads c.draw.new.self.heads (code (negated (lit_of c.args.trail.now.made c.args.visited))) w.chain w.home c.in-Some.entry c.spot-spot.result w.wired c.in-Some.ensures.drawn (c.spot-spot.ensures ∙ ap (λ (x : List Spot). spot_at x c.in-Some.entry) c.in-Some.ensures.spots) in
    let goes = c.in-Moved.ensures.visited.1 in
    let kept = (c.loop-entry.invariant.kept c.spot-spot.result.owner e.owned).within in
    let lk = listed_known c.args.trail.now.vars (at_slot (seen_as g.W.Watched.bounded g.W.Watched.watches c.loop-entry.slots.items) c.spot-spot.result.owner).c c.in-Moved.place kept goes.within in
    let kh = code_known c.args.trail.now.vars c.loop-entry.chains.heads (lit_of_spot (seen_as g.W.Watched.bounded g.W.Watched.watches c.loop-entry.slots.items) (a_spot c.spot-spot.result.owner c.in-Moved.place)) lk inv.sized in
    let same = goes.same c.spot-spot.result.owner in
    let kq : c.code_at-to.result ≡ code (lit_of_spot (seen_as g.W.Watched.bounded g.W.Watched.watches c.loop-entry.slots.items) (a_spot c.spot-spot.result.owner c.in-Moved.place)) = c.code_at-to.ensures ∙ ap (λ (b : Bounded). code (lit_at (listed b) c.in-Moved.place)) same in
    let kh2 = subst (λ (n : ℕ). n < hand_of c.loop-entry.chains.heads) (sym kq) kh in
    record {
      sized = long_kept c.loop-entry.chains.nexts c.loop-entry.chains.heads c.draw.new.self.heads c.lay_at.new.self.heads c.code_at-to.result c.in-Some.entry (2 * c.args.trail.now.vars + 3) inv.sized c.in-Some.ensures.drawn c.lay_at.ensures.heads;
      kept = subst (λ (n : ℕ). AreKept n (seen_as g.W.Watched.bounded g.W.Watched.watches c.visit.new.slots.items)) inv.present.vars c.in-Moved.ensures.kept;
      same = same_trans (seen_as g.W.Watched.bounded g.W.Watched.watches c.args.slots.now.items) (seen_as g.W.Watched.bounded g.W.Watched.watches c.loop-entry.slots.items) (seen_as g.W.Watched.bounded g.W.Watched.watches c.visit.new.slots.items) inv.same c.in-Moved.ensures.same;
      present = grown_trans c.args.trail.now c.loop-entry.trail c.visit.new.trail inv.present c.in-Moved.ensures.present;
      reasons = reasons_trans (seen_as g.W.Watched.bounded g.W.Watched.watches c.args.slots.now.items) c.args.trail.now.made c.loop-entry.trail c.visit.new.trail c.in-Moved.ensures.present inv.reasons (reasons_same (seen_as g.W.Watched.bounded g.W.Watched.watches c.args.slots.now.items) (seen_as g.W.Watched.bounded g.W.Watched.watches c.loop-entry.slots.items) c.loop-entry.trail.made c.visit.new.trail.made inv.same c.in-Moved.ensures.reasons);
      spared = spared_place (length (seen_as g.W.Watched.bounded g.W.Watched.watches c.args.slots.now.items)) c.args.chains.now c.loop-entry.chains c.draw.new.self c.lay_at.new.self c.in-Some.entry _ (a_spot c.spot-spot.result.owner c.in-Moved.place) inv.spared (omega (arith, e.owned, inv.same.long, ap (λ (z : Spot). z.owner) e.here)) c.in-Some.ensures.spots c.in-Some.ensures.nexts c.in-Some.ensures.spare c.lay_at.ensures.spots c.lay_at.ensures.nexts c.lay_at.ensures.spare;
      walking = walk_moves c.args.trail.now c.loop-entry.trail c.visit.new.trail c.args.visited (seen_as g.W.Watched.bounded g.W.Watched.watches c.loop-entry.slots.items) (seen_as g.W.Watched.bounded g.W.Watched.watches c.visit.new.slots.items) c.loop-entry.chains.spots c.lay_at.new.self.spots c.loop-entry.chains.nexts c.loop-entry.chains.heads c.draw.new.self.nexts c.draw.new.self.heads c.lay_at.new.self.nexts c.lay_at.new.self.heads (code (negated (lit_of c.args.trail.now.made c.args.visited))) c.code_at-to.result c.in-Some.entry c.in-Moved.place c.spot-spot.result inv.present c.in-Moved.ensures.visited.0 w c.in-Some.ensures.drawn e goes c.in-Moved.ensures.visited.2 (is_false (literals c.loop-entry.trail.made) (lit_of c.args.trail.now.made c.args.visited) (lit_of_spot (seen_as g.W.Watched.bounded g.W.Watched.watches c.loop-entry.slots.items) c.spot-spot.result) e.coded (all_within_grown c.args.trail.now.level c.args.trail.now.made c.loop-entry.trail.made inv.present.grows (lit_of c.args.trail.now.made c.args.visited) (has_at c.args.trail.now.made c.args.visited c.requires.visited))) kq kh2 (c.lay_at.ensures.spots ∙ ap (λ (x : List Spot). slice_set x c.in-Some.entry (a_spot c.spot-spot.result.owner c.in-Moved.place)) c.in-Some.ensures.spots) c.in-Some.ensures.nexts c.lay_at.ensures.nexts c.lay_at.ensures.heads;
    }

pub returns-in-Conflict-clause-stopped : goal.returns-in-Conflict-clause-stopped
returns-in-Conflict-clause-stopped g c =
    let inv = c.loop-entry.invariant in
    let w = inv.walking in
    let e = entry_is (seen_as g.W.Watched.bounded g.W.Watched.watches c.loop-entry.slots.items) c.loop-entry.chains.spots c.loop-entry.chains.nexts c.loop-entry.chains.heads c.draw.new.self.heads (code (negated (lit_of c.args.trail.now.made c.args.visited))) w.chain w.home c.in-Some.entry c.spot-spot.result w.wired c.in-Some.ensures.drawn (c.spot-spot.ensures ∙ ap (λ (x : List Spot). spot_at x c.in-Some.entry) c.in-Some.ensures.spots) in
    let fq : c.code-from.result ≡ (code (negated (lit_of c.args.trail.now.made c.args.visited))) = c.code-from.ensures ∙ ap code (c.negated.ensures ∙ ap negated c.at.ensures) in
    let known = known_at c.args.trail.now.vars c.args.trail.now.made c.args.visited c.requires.fresh.trail.known c.requires.visited in
    let fh = code_known c.args.trail.now.vars c.loop-entry.chains.heads (negated (lit_of c.args.trail.now.made c.args.visited)) known inv.sized in
    let nq = subst (λ (n : ℕ). c.lay-in-Conflict.new.self.nexts ≡ slice_set c.draw.new.self.nexts c.in-Some.entry (slice_index_or c.draw.new.self.heads n 0)) fq c.lay-in-Conflict.ensures.nexts in
    let hq = subst (λ (n : ℕ). c.lay-in-Conflict.new.self.heads ≡ slice_set c.draw.new.self.heads n (c.in-Some.entry + 1)) fq c.lay-in-Conflict.ensures.heads in
    let all = grown_trans c.args.trail.now c.loop-entry.trail c.visit.new.trail inv.present c.in-Conflict.ensures.present in
    subst (λ (x : List Literal). IsStopped c.visit.new.trail.made x (seen_as g.W.Watched.bounded g.W.Watched.watches c.visit.new.slots.items) c.lay-in-Conflict.new.self.spots c.lay-in-Conflict.new.self.nexts c.lay-in-Conflict.new.self.heads (code (negated (lit_of c.args.trail.now.made c.args.visited)))) (sym (take_grown c.args.trail.now c.visit.new.trail c.args.visited all c.requires.visited))
    (stopped_at c.visit.new.trail.made (take c.args.visited (literals c.args.trail.now.made)) (seen_as g.W.Watched.bounded g.W.Watched.watches c.visit.new.slots.items) c.loop-entry.chains.spots c.lay-in-Conflict.new.self.spots c.lay-in-Conflict.new.self.nexts c.lay-in-Conflict.new.self.heads (code (negated (lit_of c.args.trail.now.made c.args.visited))) (c.lay-in-Conflict.ensures.spots ∙ c.in-Some.ensures.spots) (walk_stops c.args.trail.now c.loop-entry.trail c.visit.new.trail c.args.visited (seen_as g.W.Watched.bounded g.W.Watched.watches c.loop-entry.slots.items) (seen_as g.W.Watched.bounded g.W.Watched.watches c.visit.new.slots.items) c.loop-entry.chains.spots c.loop-entry.chains.nexts c.loop-entry.chains.heads c.draw.new.self.nexts c.draw.new.self.heads c.lay-in-Conflict.new.self.nexts c.lay-in-Conflict.new.self.heads (code (negated (lit_of c.args.trail.now.made c.args.visited))) c.in-Some.entry c.in-Conflict.ensures.present w c.in-Some.ensures.drawn c.in-Conflict.ensures.visited.0 fh c.in-Some.ensures.nexts nq hq))

pub returns-in-Conflict-clause-reasons : goal.returns-in-Conflict-clause-reasons
returns-in-Conflict-clause-reasons g c =
    let inv = c.loop-entry.invariant in
    reasons_trans (seen_as g.W.Watched.bounded g.W.Watched.watches c.args.slots.now.items) c.args.trail.now.made c.loop-entry.trail c.visit.new.trail c.in-Conflict.ensures.present inv.reasons (reasons_same (seen_as g.W.Watched.bounded g.W.Watched.watches c.args.slots.now.items) (seen_as g.W.Watched.bounded g.W.Watched.watches c.loop-entry.slots.items) c.loop-entry.trail.made c.visit.new.trail.made inv.same c.in-Conflict.ensures.reasons)

pub returns-in-Conflict-clause-spared : goal.returns-in-Conflict-clause-spared
returns-in-Conflict-clause-spared g c =
    let inv = c.loop-entry.invariant in
    let w = inv.walking in
    let e = entry_is (seen_as g.W.Watched.bounded g.W.Watched.watches c.loop-entry.slots.items) c.loop-entry.chains.spots c.loop-entry.chains.nexts c.loop-entry.chains.heads c.draw.new.self.heads (code (negated (lit_of c.args.trail.now.made c.args.visited))) w.chain w.home c.in-Some.entry c.spot-spot.result w.wired c.in-Some.ensures.drawn (c.spot-spot.ensures ∙ ap (λ (x : List Spot). spot_at x c.in-Some.entry) c.in-Some.ensures.spots) in
    spared_lay (length (seen_as g.W.Watched.bounded g.W.Watched.watches c.args.slots.now.items)) c.args.chains.now c.loop-entry.chains c.draw.new.self c.lay-in-Conflict.new.self c.in-Some.entry _ inv.spared (omega (arith, e.owned, inv.same.long, ap (λ (z : Spot). z.owner) e.here)) c.in-Some.ensures.spots c.in-Some.ensures.nexts c.in-Some.ensures.spare c.lay-in-Conflict.ensures.spots c.lay-in-Conflict.ensures.nexts c.lay-in-Conflict.ensures.spare

pub returns-in-Conflict-clause-conflict : goal.returns-in-Conflict-clause-conflict
returns-in-Conflict-clause-conflict g c =
    let inv = c.loop-entry.invariant in
    let w = inv.walking in
    let e = entry_is (seen_as g.W.Watched.bounded g.W.Watched.watches c.loop-entry.slots.items) c.loop-entry.chains.spots c.loop-entry.chains.nexts c.loop-entry.chains.heads c.draw.new.self.heads (code (negated (lit_of c.args.trail.now.made c.args.visited))) w.chain w.home c.in-Some.entry c.spot-spot.result w.wired c.in-Some.ensures.drawn (c.spot-spot.ensures ∙ ap (λ (x : List Spot). spot_at x c.in-Some.entry) c.in-Some.ensures.spots) in
    let same = c.in-Conflict.ensures.visited.0 in
    let long = c.in-Conflict.ensures.same.long in (
      omega (arith, e.owned, long, length-seen g.W.Watched.bounded g.W.Watched.watches c.visit.new.slots.items),
      subst (λ (x : List Watching). IsConflicting (literals c.visit.new.trail.made) (at_slot x c.spot-spot.result.owner).c) (sym same) c.in-Conflict.ensures.visited.1,
    )

pub returns-clause-done : goal.returns-clause-done
returns-clause-done g c =
    let inv = c.loop-entry.invariant in
    let w = inv.walking in
    let z = c.in_default.ensures.drawn in
    let ws = seen_as g.W.Watched.bounded g.W.Watched.watches c.loop-entry.slots.items in
    let done = step_done c.loop-entry.trail.made (take c.args.visited (literals c.args.trail.now.made)) ws c.loop-entry.chains.spots c.loop-entry.chains.nexts c.loop-entry.chains.heads (lit_of c.args.trail.now.made c.args.visited) w z.0 in
    let from : ℕ = code (negated (lit_of c.args.trail.now.made c.args.visited)) in
    subst (λ (x : List Literal). IsStopped c.loop-entry.trail.made x ws c.draw.new.self.spots c.draw.new.self.nexts c.draw.new.self.heads from) (sym (take_next c.args.trail.now c.loop-entry.trail c.args.visited inv.present c.requires.visited))
    (stopped_at c.loop-entry.trail.made (take c.args.visited (literals c.args.trail.now.made) ++ lit_of c.args.trail.now.made c.args.visited ∷ []) ws c.loop-entry.chains.spots c.draw.new.self.spots c.draw.new.self.nexts c.draw.new.self.heads from c.in_default.ensures.spots (subst (λ (x : List ℕ). IsStopped c.loop-entry.trail.made (take c.args.visited (literals c.args.trail.now.made) ++ lit_of c.args.trail.now.made c.args.visited ∷ []) ws c.loop-entry.chains.spots c.draw.new.self.nexts x from) (sym z.1)
    (subst (λ (x : List ℕ). IsStopped c.loop-entry.trail.made (take c.args.visited (literals c.args.trail.now.made) ++ lit_of c.args.trail.now.made c.args.visited ∷ []) ws c.loop-entry.chains.spots x c.loop-entry.chains.heads from) (sym c.in_default.ensures.nexts) done)))
