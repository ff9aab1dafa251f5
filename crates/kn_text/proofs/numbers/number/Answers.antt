use Rattle.std.proofs.Common.{◌∙◌, sym, arith}
use Rattle.kn_text.proofs.Values.{stops_too_large, ends_at_value}
use Rattle.kn_text.proofs.numbers.number.Goals as goal

pub returns-in_err-checked_mul : goal.returns-in_err-checked_mul
returns-in_err-checked_mul c =
    c.from_residual.ensures ∙ stops_too_large c.args.word.now c.loop-b.b-index c.loop-b.value _ c.loop-b-test.true (sym c.if-not-is_ascii_digit.ensures.value) (grind (arith, c.in_err-checked_mul.ensures)) c.loop-b.invariant.whole

pub returns-in_err-value : goal.returns-in_err-value
returns-in_err-value c =
    c.from_residual-in_err-value.ensures ∙ stops_too_large c.args.word.now c.loop-b.b-index c.loop-b.value _ c.loop-b-test.true (sym c.if-not-is_ascii_digit.ensures.value) (grind (arith, c.in_err-value.ensures, c.in_ok-checked_mul.ensures)) c.loop-b.invariant.whole

pub returns : goal.returns
returns c = ends_at_value c.args.word.now c.loop-b.b-index c.loop-b.value _ c.loop-b-test.false c.loop-b.invariant.small c.loop-b.invariant.whole
