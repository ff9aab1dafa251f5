use Rattle.std.proofs.Common.{arith}
use Rattle.kn_text.proofs.Cuts.{first_line_is, last_line_is, first_line_has_no_feed}
use Rattle.kn_text.proofs.lines.first_line.Goals as goal

pub returns-then-is_empty-2-clause-some : goal.returns-then-is_empty-2-clause-some
returns-then-is_empty-2-clause-some c =
    last_line_is c.args.text.now c.split_at.result.0.now c.split_at.result.1.now c.line_len.result (grind (arith, c.if-is_empty.ensures)) c.line_len.ensures.value c.split_at.ensures.front c.split_at.ensures.back (grind arith)

pub returns-then-is_empty-2-clause-within : goal.returns-then-is_empty-2-clause-within
returns-then-is_empty-2-clause-within c =
    first_line_has_no_feed c.args.text.now c.split_at.result.0.now c.line_len.result c.line_len.ensures.value c.split_at.ensures.front

pub returns-clause-some : goal.returns-clause-some
returns-clause-some c =
    first_line_is c.args.text.now c.split_at.result.0.now c.split_at.result.1.now c.split_at-2.result.1.now c.line_len.result (grind (arith, c.if-is_empty.ensures)) c.line_len.ensures.value c.split_at.ensures.front c.split_at.ensures.back c.split_at-2.ensures.back

pub returns-clause-within : goal.returns-clause-within
returns-clause-within c =
    first_line_has_no_feed c.args.text.now c.split_at.result.0.now c.line_len.result c.line_len.ensures.value c.split_at.ensures.front
