use Rattle.std.proofs.Common.{ℕ, ◌<◌, List, length, take, ap, ◌∙◌, arith}
use Rattle.kn_watch.specs.Trails.{literals}
use Rattle.kn_propagate.specs.Chains.{seen_as, hand_of}
use Rattle.kn_propagate.proofs.Steps.{numbered, head_within, owned_drawn}
use Rattle.kn_propagate.proofs.Sparing.{spared_lay}
use Rattle.kn_propagate.proofs.Walks.{stopped_at, walk_less, long_kept, restore_step}
use Rattle.kn_propagate.proofs.walking.restore.Goals as goal

pub draw-requires-clause-head : goal.draw-requires-clause-head
draw-requires-clause-head g c =
    let s = c.loop-entry.invariant.stopped in
    head_within (seen_as g.W.Watched.bounded g.W.Watched.watches c.args.slots.now.items) c.loop-entry.chains.spots c.loop-entry.chains.nexts c.loop-entry.chains.heads c.args.from s.chain s.home s.wired

pub lay-requires-clause-entry : goal.lay-requires-clause-entry
lay-requires-clause-entry g c =
    let s = c.loop-entry.invariant.stopped in
    let n = numbered (seen_as g.W.Watched.bounded g.W.Watched.watches c.args.slots.now.items) c.loop-entry.chains.spots c.loop-entry.chains.nexts c.loop-entry.chains.heads c.draw.new.self.heads c.args.from s.chain s.home c.in-Some.entry s.wired c.in-Some.ensures.drawn in
    omega (arith, n, s.wired.long, ap (λ (xs : List ℕ). length xs) c.in-Some.ensures.nexts)

pub loop-entry-smaller : goal.loop-entry-smaller
loop-entry-smaller g c =
    let s = c.loop-entry.invariant.stopped in
    let fh : c.args.from < hand_of c.loop-entry.chains.heads = omega (arith, c.requires.from, c.loop-entry.invariant.sized) in
    walk_less (seen_as g.W.Watched.bounded g.W.Watched.watches c.args.slots.now.items) c.loop-entry.chains.spots c.loop-entry.chains.nexts c.loop-entry.chains.heads c.draw.new.self.nexts c.draw.new.self.heads c.lay.new.self.nexts c.lay.new.self.heads c.args.from c.args.from s.chain s.home c.in-Some.entry s.wired c.in-Some.ensures.drawn fh c.in-Some.ensures.nexts c.lay.ensures.nexts c.lay.ensures.heads

pub loop-entry-preserved : goal.loop-entry-preserved
loop-entry-preserved g c =
    let fh : c.args.from < hand_of c.loop-entry.chains.heads = omega (arith, c.requires.from, c.loop-entry.invariant.sized) in
    record {
      sized = long_kept c.loop-entry.chains.nexts c.loop-entry.chains.heads c.draw.new.self.heads c.lay.new.self.heads c.args.from c.in-Some.entry (length c.args.chains.now.heads) c.loop-entry.invariant.sized c.in-Some.ensures.drawn c.lay.ensures.heads;
      spared = (
          let s = c.loop-entry.invariant.stopped in
          let l = owned_drawn (seen_as g.W.Watched.bounded g.W.Watched.watches c.args.slots.now.items) c.loop-entry.chains.spots c.loop-entry.chains.nexts c.loop-entry.chains.heads c.draw.new.self.heads c.args.from s.chain s.home c.in-Some.entry s.wired c.in-Some.ensures.drawn in
          spared_lay (length (seen_as g.W.Watched.bounded g.W.Watched.watches c.args.slots.now.items)) c.args.chains.now c.loop-entry.chains c.draw.new.self c.lay.new.self c.in-Some.entry _ c.loop-entry.invariant.spared l c.in-Some.ensures.spots c.in-Some.ensures.nexts c.in-Some.ensures.spare c.lay.ensures.spots c.lay.ensures.nexts c.lay.ensures.spare);
      stopped = stopped_at c.args.trail.now.made (take c.args.visited (literals c.args.trail.now.made)) (seen_as g.W.Watched.bounded g.W.Watched.watches c.args.slots.now.items) c.loop-entry.chains.spots c.lay.new.self.spots c.lay.new.self.nexts c.lay.new.self.heads c.args.from (c.lay.ensures.spots ∙ c.in-Some.ensures.spots) (restore_step c.args.trail.now.made (take c.args.visited (literals c.args.trail.now.made)) (seen_as g.W.Watched.bounded g.W.Watched.watches c.args.slots.now.items) c.loop-entry.chains.spots c.loop-entry.chains.nexts c.loop-entry.chains.heads c.draw.new.self.nexts c.draw.new.self.heads c.lay.new.self.nexts c.lay.new.self.heads c.args.from c.in-Some.entry c.loop-entry.invariant.stopped c.in-Some.ensures.drawn fh c.in-Some.ensures.nexts c.lay.ensures.nexts c.lay.ensures.heads);
    }
