use Rattle.std.proofs.Common.{◌≡◌, ◌≤◌, ℕ, List, length, sym, ap, ◌∙◌, subst, arith}
use Rattle.kn_logic.specs.Literals.{Literal}
use Rattle.kn_watch.specs.Watches.{listed}
use Rattle.kn_propagate.specs.Chains.{Watching, seen_as, at_slot, cut, IsStill}
use Rattle.kn_propagate.proofs.Turning.{length-seen, seen_here}
use Rattle.kn_propagate.proofs.Adding.{agrees_back, still_agrees, cut_whole}
use Rattle.kn_propagate.proofs.detaching.detach.Goals as goal

none_left : (place : ℕ) → place ≤ 0 → place ≡ 0
none_left place le = omega (arith, le)

pub loop-place-init : goal.loop-place-init
loop-place-init g c =
    let b = g.W.Watched.bounded in
    let w = g.W.Watched.watches in
    let slots = c.args.slots.now.items in
    let ws = seen_as b w slots in
    let count : ℕ = length c.lits-place.result.now in
    let here = seen_here b w slots c.args.owner c.index.result.now (omega (arith, c.requires.owner, length-seen b w slots)) c.index.ensures in
    let long : count ≡ length (listed (at_slot ws c.args.owner).c) = ap (λ (x : List Literal). length x) c.lits-place.ensures ∙ sym (ap (λ (x : Watching). length (listed x.c)) here) in
    record {
      sized = c.requires.sized;
      inside = omega (arith, long);
      still = still_agrees ws (cut ws c.args.owner count) c.args.chains.now (agrees_back (cut ws c.args.owner count) ws (cut_whole ws c.args.owner count c.requires.owner long)) c.requires.still;
      spare = c.requires.spare;
    }

pub returns-clause-still : goal.returns-clause-still
returns-clause-still g c =
    let ws = seen_as g.W.Watched.bounded g.W.Watched.watches c.args.slots.now.items in
    subst (λ (n : ℕ). IsStill (cut ws c.args.owner n) c.loop-place.chains) (none_left c.loop-place.place c.loop-place-test.false) c.loop-place.invariant.still
