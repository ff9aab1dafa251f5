use Rattle.std.proofs.Common.{refl}
use Rattle.kn_tool.proofs.Worked.{summarised, short_summary}
use Rattle.kn_tool.proofs.working.summary_reply.Goals as goal

pub returns-in-Ok : goal.returns-in-Ok
returns-in-Ok c =
    (refl, summarised c.args.blocks c.args.e.now c.original.result.now c.taken.result.now _ c.args.answer c.in-Ok.text.items c.original.ensures.extracted c.requires c.original.ensures.value c.taken.ensures.value refl c.in-Ok.ensures)

pub returns-in-Err : goal.returns-in-Err
returns-in-Err c = short_summary c.args.blocks c.args.answer c.short_memory.result c.short_memory.ensures
