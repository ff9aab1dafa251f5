use Rattle.kn_logic.specs.Formulas.{Problem}
use Rattle.kn_tool.proofs.Readings.{unread_formula, refusal_reply}
use Rattle.kn_tool.proofs.files.understand.Goals as goal

pub returns-in-Err-clause-err : goal.returns-in-Err-clause-err
returns-in-Err-clause-err g c = unread_formula _ _ c.in-Err.ensures.err

pub returns-clause-err : goal.returns-clause-err
returns-clause-err g c = refusal_reply Problem _ _ _ _ _ c.in-Ok.ensures.ok c.deref.ensures.value c.in-Err-read_formula.ensures.refused c.in-Err-read_formula.ensures.none c.refusal.ensures
