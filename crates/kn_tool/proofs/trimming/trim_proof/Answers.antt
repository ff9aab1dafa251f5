use Rattle.kn_tool.proofs.Readings.{untrimmed_proof, untrimmed_reply, trimmed_reply}
use Rattle.kn_tool.proofs.trimming.trim_proof.Goals as goal

pub returns-in-Err-clause-reply : goal.returns-in-Err-clause-reply
returns-in-Err-clause-reply g c = untrimmed_proof _ _ _ c.in-Err.ensures.err

pub returns-in-Ok-trim-clause-reply : goal.returns-in-Ok-trim-clause-reply
returns-in-Ok-trim-clause-reply g c =
    trimmed_reply _ _ _ _ c.in-Ok-trim.trimmed _ c.in-Ok.ensures.ok c.deref.ensures.value
    c.in-Ok-trim.ensures.text c.in-Ok-trim.ensures.verified c.in-Ok-trim.ensures.proof c.in-Ok-trim.ensures.wrong c.in-Ok-trim.ensures.refused c.reply_to.ensures

pub returns-clause-reply : goal.returns-clause-reply
returns-clause-reply g c = untrimmed_reply _ _ _ c.short_memory.ensures
