use Rattle.std.proofs.Common.{◌≤◌, ◌<◌, ◌^◌, length, sym, subst, arith}
use Rattle.kn_logic.specs.Formulas.{Problem}
use Rattle.kn_gen.specs.Blocks.{generated}
use Rattle.kn_tool.specs.WorkReplies.{IsSummary}
use Rattle.kn_tool.proofs.Worked.{found_no_model, worked_reply, silent_row}
use Rattle.kn_tool.proofs.working.solve_blocks.Goals as goal

pub solve_extraction-requires-clause-vars : goal.solve_extraction-requires-clause-vars
solve_extraction-requires-clause-vars g c =
    subst (λ (f : Problem). f.vars ≤ 2 ^ 32) (sym c.requires.original)
    (let few : (generated c.args.blocks).vars ≤ 1000000 = c.blocks_are_counted.ensures.few_variables c.args.blocks c.requires.last in omega (arith, few))

pub solve_extraction-requires-clause-count : goal.solve_extraction-requires-clause-count
solve_extraction-requires-clause-count g c =
    subst (λ (f : Problem). length f.constraints < 2 ^ 64) (sym c.requires.original)
    (let few : length (generated c.args.blocks).constraints ≤ 10000000 = c.blocks_are_counted.ensures.few_clauses c.args.blocks c.requires.last in omega (arith, few))

pub answer_of-requires : goal.answer_of-requires
answer_of-requires g c =
    found_no_model c.args.blocks _ _ _ _ c.in-Ok.outcome c.requires.original (c.blocks_have_no_model.ensures.clauses c.args.blocks c.requires.first) c.in-Ok.ensures.found

pub returns-in-Ok-clause-reply : goal.returns-in-Ok-clause-reply
returns-in-Ok-clause-reply g c =
    worked_reply c.args.blocks _ _ c.in-Ok.outcome c.summary_reply.result c.requires.original (c.blocks_have_no_model.ensures.clauses c.args.blocks c.requires.first) c.in-Ok.ensures.found
    (subst (λ a. IsSummary c.args.blocks a c.summary_reply.result) c.answer_of.ensures c.summary_reply.ensures)

pub returns-in-Err-clause-reply : goal.returns-in-Err-clause-reply
returns-in-Err-clause-reply g c = silent_row c.args.blocks _ _ c.in-Err.answer c.requires.original c.in-Err.ensures.err
