use Rattle.std.proofs.Common.{refl}
use Rattle.kn_tool.proofs.Limits.{accepted-limits}
use Rattle.kn_tool.proofs.Replies.{accepted_reply, no_formula_reply}
use Rattle.kn_tool.proofs.solving.solve_file.Goals as goal

pub solve_formula-requires : goal.solve_formula-requires
solve_formula-requires g c = accepted-limits _ _ c.in-Ok.ensures.ok

pub returns-in-Ok-clause-reply : goal.returns-in-Ok-clause-reply
returns-in-Ok-clause-reply g c = accepted_reply _ _ _ _ _ c.in-Ok.ensures.ok c.solve_formula.ensures.reply

pub returns-in-Err-clause-reply : goal.returns-in-Err-clause-reply
returns-in-Err-clause-reply g c = no_formula_reply _ _ _ _ refl c.in-Err.ensures.err
