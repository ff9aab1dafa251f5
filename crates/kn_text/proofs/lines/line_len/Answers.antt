use Rattle.kn_text.proofs.Cuts.{line_end_is, line_end_is_all}
use Rattle.kn_text.proofs.lines.line_len.Goals as goal

pub returns-in-Some-clause-value : goal.returns-in-Some-clause-value
returns-in-Some-clause-value c =
    line_end_is c.args.text.now c.in-Some.at c.in-Some.ensures.0.high c.in-Some.ensures.0.before c.in-Some.ensures.1

pub returns-in-None-clause-value : goal.returns-in-None-clause-value
returns-in-None-clause-value c = line_end_is_all c.args.text.now c.in-None.ensures
