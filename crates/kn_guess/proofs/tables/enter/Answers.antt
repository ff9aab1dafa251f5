use Rattle.std.proofs.Common.{arith, get_or, refl}
use Rattle.std.proofs.lemmas.List.{length-set}
use Rattle.kn_guess.proofs.Built.{enter-among, enter-placed}
use Rattle.kn_guess.proofs.tables.enter.Goals as goal

pub loop-id-preserved : goal.loop-id-preserved
loop-id-preserved c =
    let ids = c.args.ids.now in
    let i = c.loop-id.id-index in
    let id = get_or ids i 0 in
    let mid = c.lengthen.new.members.items in
    let pushed = c.push.new.self in
    let old = c.loop-id.invariant.more in
    let more = c.in_ok-lengthen.ensures.more in
    let long = length-set mid id pushed in
    record {
      more = omega (arith, old, more, long);
      placed = enter-placed c.loop-id.members.items mid ids i id pushed c.loop-id-test.true refl c.loop-id.invariant.placed more c.in_ok-lengthen.ensures.placed;
      among = enter-among c.args.members.now.items c.loop-id.members.items mid ids i id c.args.var c.index_mut.result.now pushed c.loop-id-test.true refl c.loop-id.invariant.among c.in_ok-lengthen.ensures.same c.in_ok-lengthen.ensures.placed
          c.index_mut.ensures.value c.in_ok-push.ensures.ok;
    }
