use Rattle.kn_tool.proofs.Readings.{unread_proof, checked_reply, unchecked_reply}
use Rattle.kn_tool.proofs.checking.check_formula.Goals as goal

pub returns-in-Err-clause-reply : goal.returns-in-Err-clause-reply
returns-in-Err-clause-reply g c = unread_proof _ _ _ c.in-Err.ensures.err

pub returns-in-Ok-check-clause-reply : goal.returns-in-Ok-check-clause-reply
returns-in-Ok-check-clause-reply g c =
    checked_reply _ _ _ _ c.in-Ok-check.checked _ _ c.in-Ok.ensures.ok c.deref.ensures.value
    c.in-Ok-check.ensures.verified c.in-Ok-check.ensures.sound c.in-Ok-check.ensures.wrong c.in-Ok-check.ensures.refused c.verdict.ensures c.reply_of.ensures

pub returns-clause-reply : goal.returns-clause-reply
returns-clause-reply g c = unchecked_reply _ _ _ c.short_memory.ensures
