use Rattle.std.proofs.Common.{◌≡◌, List, length, sym, ap, ◌∙◌, arith}
use Rattle.kn_logic.specs.Literals.{Literal}
use Rattle.kn_watch.specs.Watches.{listed}
use Rattle.kn_propagate.specs.Chains.{Watching, seen_as, at_slot, cut}
use Rattle.kn_propagate.proofs.Turning.{length-seen, seen_here}
use Rattle.kn_propagate.proofs.Adding.{still_agrees, cut_whole}
use Rattle.kn_propagate.proofs.attaching.attach.Goals as goal

pub returns-clause-still : goal.returns-clause-still
returns-clause-still g c =
    let b = g.W.Watched.bounded in
    let w = g.W.Watched.watches in
    let slots = c.args.slots.now.items in
    let ws = seen_as b w slots in
    let here = seen_here b w slots c.args.owner c.index.result.now (omega (arith, c.requires.owner, length-seen b w slots)) c.index.ensures in
    let long : length c.lits-count.result.now ≡ length (listed (at_slot ws c.args.owner).c) = ap (λ (x : List Literal). length x) c.lits-count.ensures ∙ sym (ap (λ (x : Watching). length (listed x.c)) here) in
    let end : c.loop-place.place ≡ length (listed (at_slot ws c.args.owner).c) = omega (arith, c.loop-place-test.false, c.loop-place.auto.place-end, long) in
    still_agrees (cut ws c.args.owner c.loop-place.place) ws c.loop-place.chains (cut_whole ws c.args.owner c.loop-place.place c.requires.owner end) c.loop-place.invariant.still
