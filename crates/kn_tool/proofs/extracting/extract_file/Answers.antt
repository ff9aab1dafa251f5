use Rattle.kn_tool.proofs.Replies.{accepted_reply, no_formula_reply}
use Rattle.kn_tool.proofs.Limits.{accepted-limits}
use Rattle.kn_tool.proofs.extracting.extract_file.Goals as goal

pub extract_formula-requires : goal.extract_formula-requires
extract_formula-requires g c = accepted-limits _ _ c.in-Ok.ensures.ok

pub returns-in-Ok-clause-reply : goal.returns-in-Ok-clause-reply
returns-in-Ok-clause-reply g c = accepted_reply _ _ _ _ _ c.in-Ok.ensures.ok c.extract_formula.ensures

pub returns-in-Err-clause-reply : goal.returns-in-Err-clause-reply
returns-in-Err-clause-reply g c = no_formula_reply _ _ _ _ tt c.in-Err.ensures.err
