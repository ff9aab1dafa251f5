use Rattle.std.proofs.Common.{true, false, arith}
use Rattle.kn_tables.proofs.quantify.partner_words.Goals as goal

pub bounds-before-with_bit : goal.bounds-before-with_bit
bounds-before-with_bit c =
    omega (arith, c.with_bit.ensures, c.requires.before c.loop-place.place true (omega (arith, c.loop-place-test.true)))

pub bounds-before-without_bit : goal.bounds-before-without_bit
bounds-before-without_bit c =
    omega (arith, c.without_bit.ensures, c.requires.before c.loop-place.place false (omega (arith, c.loop-place-test.true)))
