use Rattle.kn_tool.proofs.Readings.{done_row, large_reply, unconverted_reply}
use Rattle.kn_tool.proofs.converting.convert_formula.Goals as goal

pub returns-in-Ok-write_cnf : goal.returns-in-Ok-write_cnf
returns-in-Ok-write_cnf c = done_row _ c.in-Ok.clauses _ c.in-Ok.ensures.clauses c.in-Ok.ensures.within c.in-Ok.ensures.extended c.in-Ok.ensures.cut c.in-Ok-write_cnf.ensures.text

pub returns-in-Ok : goal.returns-in-Ok
returns-in-Ok c = unconverted_reply _ _ c.short_memory.ensures

pub returns-in-Err-TooLarge : goal.returns-in-Err-TooLarge
returns-in-Err-TooLarge c = large_reply _ _ _ _ c.in-Err-TooLarge.field-0-is c.in-Err-TooLarge.ensures.large c.reply_of.ensures

pub returns : goal.returns
returns c = unconverted_reply _ _ c.short_memory-in-Err-Memory.ensures
