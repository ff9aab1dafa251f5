use Rattle.std.proofs.Common.{sym, ◌∙◌, arith, drop}
use Rattle.kn_guess.specs.Gathering.{outside_key}
use Rattle.kn_guess.proofs.Gathers.{full-lits, is-full}
use Rattle.kn_guess.proofs.gathering.add_lits.Goals as goal

pub returns-then-len-limit : goal.returns-then-len-limit
returns-then-len-limit c =
    let over = c.if-len-limit.true in
    let long = c.len.ensures in
    sym (full-lits c.args.limit (outside_key c.args.outside.now.set.now c.args.outside.now.positive) c.loop-lit.set (drop c.loop-lit.lit-index c.args.lits.now) (is-full c.args.limit c.loop-lit.set (omega (arith, over, long)))) ∙ c.loop-lit.invariant
