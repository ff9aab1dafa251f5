use Rattle.std.proofs.Common.{sym, ◌∙◌, arith, drop}
use Rattle.kn_guess.specs.Gathering.{outside_key}
use Rattle.kn_guess.proofs.Gathers.{full-ids, is-full}
use Rattle.kn_guess.proofs.gathering.add_ids.Goals as goal

pub returns-then-len-limit : goal.returns-then-len-limit
returns-then-len-limit c =
    let over = c.if-len-limit.true in
    let long = c.len.ensures in
    sym (full-ids c.args.limit (outside_key c.args.outside.now.set.now c.args.outside.now.positive) c.args.store.now.live c.loop-id.set (drop c.loop-id.id-index c.args.ids.now) (is-full c.args.limit c.loop-id.set (omega (arith, over, long)))) ∙ c.loop-id.invariant
