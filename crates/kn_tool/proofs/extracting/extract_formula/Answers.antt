use Rattle.kn_tool.proofs.Limits.{unextracted_reply}
use Rattle.kn_tool.proofs.extracting.extract_formula.Goals as goal

pub returns-in-Err : goal.returns-in-Err
returns-in-Err c = unextracted_reply _ _ c.short_memory.ensures
