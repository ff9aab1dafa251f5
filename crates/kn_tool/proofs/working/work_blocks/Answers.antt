use Rattle.std.proofs.Common.{refl}
use Rattle.kn_tool.proofs.Worked.{before_proof}
use Rattle.kn_tool.proofs.working.work_blocks.Goals as goal

pub returns-in-Err-clause-reply : goal.returns-in-Err-clause-reply
returns-in-Err-clause-reply g c = before_proof _ _ _ (c.blocks_are_counted.ensures.few_variables _ c.requires.last) (c.blocks_are_counted.ensures.few_clauses _ c.requires.last) refl c.short_memory.ensures
