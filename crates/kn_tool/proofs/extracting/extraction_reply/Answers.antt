use Rattle.kn_tool.proofs.Limits.{extracted_row, unextracted_reply}
use Rattle.kn_tool.proofs.extracting.extraction_reply.Goals as goal

pub returns-in-Ok : goal.returns-in-Ok
returns-in-Ok c =
    extracted_row c.args.e.now c.in-Ok.text.items c.formula-formula.ensures.extracted c.in-Ok.ensures.text (c.in-Ok.ensures.again c.requires)
    c.an_extraction_keeps_models.ensures.onward c.an_extraction_keeps_models.ensures.back

pub returns-in-Err : goal.returns-in-Err
returns-in-Err c = unextracted_reply _ _ c.short_memory.ensures
