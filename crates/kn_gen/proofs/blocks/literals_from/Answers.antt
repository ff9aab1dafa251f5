use Rattle.std.proofs.Common.{◌+◌, ◌-◌, ◌++◌, ◌≡◌, sym, subst, arith}
use Rattle.kn_gen.specs.Blocks.{literals_from}
use Rattle.kn_gen.proofs.Adding.{literals-more}
use Rattle.kn_gen.proofs.blocks.literals_from.Goals as goal

pub loop-place-preserved : goal.loop-place-preserved
loop-place-preserved c =
    let grown = literals-more c.loop-place.lits.items (literals_from c.args.first 8) c.args.first c.loop-place.place (8 - c.loop-place.place) (8 - (c.loop-place.place + 1)) c.new.result (omega (arith, c.loop-place-test.true)) c.new.ensures c.loop-place.invariant in
    subst (λ items. items ++ literals_from (c.args.first + (c.loop-place.place + 1)) (8 - (c.loop-place.place + 1)) ≡ literals_from c.args.first 8) (sym c.in_ok-push.ensures.items) grown
