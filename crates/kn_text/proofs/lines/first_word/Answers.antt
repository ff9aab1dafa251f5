use Rattle.std.proofs.Common.{◌<◌, arith}
use Rattle.kn_text.proofs.Cuts.{first_word_is, first_word_is_filled, no_word}
use Rattle.kn_text.proofs.lines.first_word.Goals as goal

pub returns-then-is_empty-clause-none : goal.returns-then-is_empty-clause-none
returns-then-is_empty-clause-none c =
    no_word c.args.line.now c.split_at.result.1.now c.blanks.result c.blanks.ensures.value c.split_at.ensures.back (grind (arith, c.if-is_empty.ensures))

filled : (c : goal.After-split_at-2) → 0 < c.word_len.result
filled c =
    first_word_is_filled c.args.line.now c.split_at.result.1.now c.blanks.result c.word_len.result c.blanks.ensures.value c.split_at.ensures.back c.word_len.ensures.value (grind (arith, c.if-is_empty.ensures))

pub returns-clause-some : goal.returns-clause-some
returns-clause-some c =
    first_word_is c.args.line.now c.split_at.result.1.now c.split_at-2.result.0.now c.split_at-2.result.1.now c.blanks.result c.word_len.result c.blanks.ensures.value c.split_at.ensures.back c.word_len.ensures.value c.split_at-2.ensures.front c.split_at-2.ensures.back (omega (arith, filled c, c.split_at-2.ensures.front_len))

pub returns-clause-shorter : goal.returns-clause-shorter
returns-clause-shorter c = omega (arith, filled c, c.split_at-2.ensures.back_len, c.split_at.ensures.back_len)

pub returns-clause-filled : goal.returns-clause-filled
returns-clause-filled c = omega (arith, filled c, c.split_at-2.ensures.front_len)
